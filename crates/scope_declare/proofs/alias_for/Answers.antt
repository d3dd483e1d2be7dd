-- The binding that the scope has, found by its place. Assumes nothing.
use mathlib.Core.Path.{sym, ap, ◌∙◌}
use mathlib.Core.Option.{some}
use Rattle.scope_declare.proofs.Init as init
use Rattle.words_scopes.specs.State.{stack}
use Rattle.scope_declare.proofs.alias_for.Goals as goal

pub returns-in_err-k : goal.returns-in_err-k
returns-in_err-k c = rw c.from_residual.ensures (sym (init.alias-find c.args.y (stack c.args.w.now) ∙ ap init.kind_of_o c.in_err-k.ensures.found.0))

pub returns : goal.returns
returns c = ap some c.var_type.ensures ∙ sym (init.alias-find c.args.y (stack c.args.w.now) ∙ ap init.kind_of_o c.in_ok-k.ensures.found.0)

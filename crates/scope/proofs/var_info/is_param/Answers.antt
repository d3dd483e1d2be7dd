use mathlib.Core.Path.{ap, ◌∙◌}
use Rattle.def_pass.specs.Scope.{is_param}
use Rattle.scope.proofs.Numbers as numbers
use Rattle.scope.proofs.var_info.is_param.Goals as goal

pub returns-then-known : goal.returns-then-known
returns-then-known c = rw (numbers.number_in c.args.w.now c.requires c.args.b (c.known.ensures.0 c.if-known.true)) (c.is_param.ensures ∙ ap is_param c.var_type.ensures)

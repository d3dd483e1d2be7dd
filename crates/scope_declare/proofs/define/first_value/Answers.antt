-- Recorded, or refused before the words change; and then defined. Assumes nothing.
use Rattle.std.proofs.Common.{subst, ◌∙◌}
use Rattle.std.proofs.lemmas.Result.{err_from_is_err_and}
use Rattle.def_pass.specs.Scope.{Stack, change, defined}
use Rattle.words_scopes.specs.State.{Becomes, stack}
use Rattle.scope_values.specs.Steps.{run_value}
use Rattle.scope_values.proofs.Listed as listed
use Rattle.scope_declare.proofs.Declares.{first-is, over-first}
use Rattle.scope_declare.proofs.define.first_value.Goals as goal

pub returns-in_err-record_value : goal.returns-in_err-record_value
returns-in_err-record_value c =
    let w = c.args.w.now in
    let g = c.in_err-record_value.ensures in
    let e = err_from_is_err_and c.from_residual.result c.from_residual.ensures.1 in
    rw (e.1, e.2) (g.0, over-first c.args.x (run_value w c.args.r) (stack w) ∙ g.1, g.2)

pub returns : goal.returns
returns c =
    let w = c.args.w.now in
    let b = listed.becomes-next (change c.args.x defined) c.in_ok-record_value.ensures.0 c.define.ensures in
    listed.done-under (subst (λ (st : Stack). Becomes w c.define.new.w st) (first-is c.args.x (run_value w c.args.r) (stack w)) b)

-- A run: each phase is set, and the script walked in it. Assumes nothing.
use Rattle.std.proofs.lemmas.Result.{err_from_is_err_and}
use Rattle.pass_run.proofs.Turns as runs
use Rattle.pass_run.proofs.visit_mut_program.Goals as goal

pub returns : goal.returns
returns c =
    let d = runs.second-done c.set_inlining.ensures c.program.ensures c.in_ok-program.was c.set_inlining-2.ensures c.program-2.ensures _ c.in_ok-end.was c.set_inlining-3.ensures in
    record { is = d; balance = runs.did_balance _ c.requires d }

pub returns-in_err-end : goal.returns-in_err-end
returns-in_err-end c =
    let p = err_from_is_err_and c.from_residual-in_err-end.result c.from_residual-in_err-end.ensures.1 in
    rw (p.1, p.2) (record { balance = λ h. tt; is = runs.second-stop c.set_inlining.ensures c.program.ensures c.in_ok-program.was c.set_inlining-2.ensures c.program-2.ensures _ c.in_err-end.was })

pub returns-in_err-program : goal.returns-in_err-program
returns-in_err-program c =
    let p = err_from_is_err_and c.from_residual.result c.from_residual.ensures.1 in
    rw (p.1, p.2) (record { balance = λ h. tt; is = runs.first-stop c.set_inlining.ensures c.program.ensures _ c.in_err-program.was })

-- Runs: as many as are done, and what is left of them. Assumes nothing.
use Rattle.std.proofs.Common.{sym, ◌∙◌, arith}
use Rattle.std.proofs.lemmas.Result.{err_from_is_err_and}
use Rattle.pass_run.proofs.Turns.{going-none, going_end, going-stop, going-last, going-balance, going_on}
use Rattle.pass_run.proofs.runs.Goals as goal

pub loop-k-init : goal.loop-k-init
loop-k-init c = going-none c.args.n c.requires

pub set_changed-requires : goal.set_changed-requires
set_changed-requires c = c.loop-k.invariant.ok.planted

pub visit_mut_program-requires : goal.visit_mut_program-requires
visit_mut_program-requires c = c.set_changed.ensures.ok.planted

pub returns-in_err-visit_mut_program : goal.returns-in_err-visit_mut_program
returns-in_err-visit_mut_program c =
    let p = err_from_is_err_and c.from_residual.result c.from_residual.ensures.1 in
    rw (p.1, p.2) (record { balance = λ h. tt; is = going-stop c.args.n c.loop-k.k c.loop-k.invariant c.loop-k-test.true c.set_changed.ensures c.visit_mut_program.ensures.is c.visit_mut_program.ensures.balance _ c.in_err-visit_mut_program.was })

pub changed-requires : goal.changed-requires
changed-requires c = c.visit_mut_program.ensures.is.ok.planted.good.long

pub returns-then-not-changed : goal.returns-then-not-changed
returns-then-not-changed c = record {
  is = going-last c.args.n c.loop-k.k c.loop-k.invariant c.loop-k-test.true c.set_changed.ensures c.visit_mut_program.ensures.is c.visit_mut_program.ensures.balance _ c.in_ok-visit_mut_program.was (sym c.changed.ensures ∙ c.if-not-changed.true);
  balance = going-balance c.args.n c.loop-k.k c.loop-k.invariant c.loop-k-test.true c.set_changed.ensures c.visit_mut_program.ensures.is c.visit_mut_program.ensures.balance _ c.in_ok-visit_mut_program.was;
}

pub set_is_first_run-requires : goal.set_is_first_run-requires
set_is_first_run-requires c = c.visit_mut_program.ensures.is.ok.planted

pub loop-k-preserved : goal.loop-k-preserved
loop-k-preserved c = going_on c.args.n c.loop-k.k c.loop-k.invariant c.loop-k-test.true c.set_changed.ensures c.visit_mut_program.ensures.is c.visit_mut_program.ensures.balance _ c.in_ok-visit_mut_program.was (sym c.changed.ensures ∙ c.if-not-changed.false) c.set_is_first_run.ensures

pub returns : goal.returns
returns c = record { is = going_end c.args.n c.loop-k.k c.loop-k.invariant (omega arith); balance = c.loop-k.invariant.balance }

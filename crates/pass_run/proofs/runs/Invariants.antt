-- Runs: as many as are done, and what is left of them. Assumes nothing.
use Rattle.pass_run.proofs.Turns.{Going}
use Rattle.pass_run.proofs.runs.Given as goal

abbrev pub invariant-loop-k : goal.invariant-loop-k
invariant-loop-k l = Going l.initial.w l.w l.n l.k

-- Node by node, from the first on. Assumes nothing.
use Rattle.words_targets.specs.Targets.{Beside}
use Rattle.words_targets.proofs.Targets as laws
use Rattle.words_targets.proofs.mark_targets.Given as goal

abbrev pub invariant-loop-k : goal.invariant-loop-k
invariant-loop-k l = Beside l.initial.w l.w × laws.Sum l.initial.w l.w l.k

-- The first records are marked, and the others are as they were. Assumes nothing.
use Rattle.std.proofs.Common.{◌≡◌, ◌++◌, map, take, drop}
use Rattle.words_scopes.specs.Mark.{marked}
use Rattle.words_scopes.proofs.binding.mark_all.Given as goal

abbrev pub invariant-loop-b : goal.invariant-loop-b
invariant-loop-b l = l.bs ≡ map (marked l.x) (take l.b-index l.initial.bs) ++ drop l.b-index l.initial.bs

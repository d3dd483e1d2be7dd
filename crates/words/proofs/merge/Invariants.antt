-- One set of flags put into another. Assumes nothing.
use Rattle.words.specs.Moved.{Merged}
use Rattle.words.proofs.merge.Given as goal

abbrev pub invariant-loop-i : goal.invariant-loop-i
invariant-loop-i l = Merged l.initial.w l.w l.a l.b l.i

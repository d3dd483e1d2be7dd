-- None of the first i is the number. Assumes nothing.
use Rattle.std.proofs.Common.{◌≡◌, ◌+◌, drop}
use Rattle.def_canon.specs.Canon.{index_of}
use Rattle.file_canon.specs.Uses.{uses_of}
use Rattle.file_canon.proofs.uses.Uses.place_of.Given as goal

abbrev pub invariant-loop-i : goal.invariant-loop-i
invariant-loop-i l = index_of l.x (uses_of l.words l.self.base) ≡ l.i + index_of l.x (drop l.i (uses_of l.words l.self.base))

-- A height bounded: the children measured one after the other, each with one less. Assumes nothing.
use Rattle.std.proofs.Common.{◌-◌}
use Rattle.words.specs.Layout.{run}
use Rattle.words_nodes.proofs.Loops.{Measuring}
use Rattle.words_nodes.proofs.+within_height.Given as goal

abbrev pub decreases-within_height : goal.decreases-within_height
decreases-within_height l = l.left

abbrev pub invariant-loop-k : goal.invariant-loop-k
invariant-loop-k l = Measuring (run l.w l.base 0 l.end) l.at (l.left - 1) l._k l.j

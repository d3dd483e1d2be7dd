-- The end of a subtree: a loop that counts the trees still open. Assumes nothing.
use Prim.Native.Nat.{◌-◌}
use lib.ListN.{get_or}
use Rattle.words.specs.Layout.{tree}
use Rattle.words_nodes.proofs.Loops.{Passed}
use Rattle.words_nodes.proofs.skip.Given as goal

abbrev pub invariant-loop-trees : goal.invariant-loop-trees
invariant-loop-trees l = Passed (tree l.w) l.i l.at l.trees

abbrev pub decreases-loop-trees : goal.decreases-loop-trees
decreases-loop-trees l = get_or l.w 0 0 - l.at

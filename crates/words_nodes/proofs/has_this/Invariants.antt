-- A search for `this` that passes over functions. Assumes nothing.
use Prim.Native.Nat.{◌-◌}
use lib.ListN.{get_or}
use Rattle.words.specs.Layout.{tree}
use Rattle.words_nodes.proofs.Loops.{Sought}
use Rattle.words_nodes.proofs.has_this.Given as goal

abbrev pub invariant-loop-more : goal.invariant-loop-more
invariant-loop-more l = Sought (tree l.w) l.i l.at l.more

abbrev pub decreases-loop-more : goal.decreases-loop-more
decreases-loop-more l = get_or l.w 0 0 - l.at

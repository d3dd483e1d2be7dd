-- Tree by tree, into patterns. Assumes nothing.
use Prim.Native.Nat.{◌-◌}
use lib.ListN.{get_or}
use Rattle.words.specs.Layout.{tree}
use Rattle.words_twice.specs.Twice.{named}
use Rattle.words_twice.proofs.Declaring as declaring
use Rattle.words_twice.proofs.names.Given as goal

abbrev pub invariant-loop-more : goal.invariant-loop-more
invariant-loop-more l = declaring.Declaring (named l.costly) (tree l.w) l.i l.n l.fn.seen l.seen l.at l.more

abbrev pub decreases-loop-more : goal.decreases-loop-more
decreases-loop-more l = get_or l.w 0 0 - l.at

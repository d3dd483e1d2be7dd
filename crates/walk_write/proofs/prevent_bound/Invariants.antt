-- The invariant: what is left to prevent are the names that the trees still open bind. Assumes nothing.
use Prim.Native.Nat.{◌-◌}
use lib.ListN.{get_or}
use Rattle.walk_write.proofs.Bounds.{Preventing}
use Rattle.walk_write.proofs.prevent_bound.Given as goal

abbrev pub invariant-loop-more : goal.invariant-loop-more
invariant-loop-more l = Preventing l.initial.w l.w l.i l.more l.at

abbrev pub decreases-loop-more : goal.decreases-loop-more
decreases-loop-more l = get_or l.initial.w 0 0 - l.at

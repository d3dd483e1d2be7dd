-- The invariant: what is left to write are the names of the trees still open. Assumes nothing.
use Rattle.scope_read_write.specs.Writes.{forced}
use Prim.Native.Nat.{◌-◌}
use lib.ListN.{get_or}
use Rattle.walk_write.proofs.Writing.{Writing}
use Rattle.walk_write.proofs.write_trees.Given as goal

abbrev pub invariant-loop-more : goal.invariant-loop-more
invariant-loop-more l = Writing l.initial.w l.w (forced l.how) l.n l.i l.more l.at

abbrev pub decreases-loop-more : goal.decreases-loop-more
decreases-loop-more l = get_or l.initial.w 0 0 - l.at

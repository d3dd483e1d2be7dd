-- The index, and three counts. Assumes nothing.
use Rattle.std.proofs.Common.{arith, length-set}
use Rattle.scope_child.proofs.Ends as ends
use Rattle.scope_child.proofs.drop_all.Goals as goal

pub bounds-w-2 : goal.bounds-w-2
bounds-w-2 c = simp length-set (omega (arith, c.requires.long, c.wipe.auto.w))

pub bounds-w-3 : goal.bounds-w-3
bounds-w-3 c = simp length-set (omega (arith, c.requires.long, c.wipe.auto.w))

pub shape_of-w : goal.shape_of-w
shape_of-w c = simp length-set c.wipe.auto.w

pub returns : goal.returns
returns c = ends.none_left c.args.w.now c.wipe.new.w c.requires c.wipe.ensures

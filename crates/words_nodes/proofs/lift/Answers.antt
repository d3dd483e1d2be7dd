-- A second child copied over its parent, and the end of the tree moved. Assumes nothing.
use mathlib.Core.Path.{◌≡◌}
use native.Mathlib.Omega.{arith}
use lib.ListN.{get_or}
use Rattle.words_nodes.proofs.Splice.{lift-room, lift-done}
use Rattle.words_nodes.proofs.lift.Goals as goal

pub overflow_mul-j : goal.overflow_mul-j
overflow_mul-j c = omega (arith, c.requires.3, lift-room c.requires.0 c.requires.1)

pub overflow_add-j : goal.overflow_add-j
overflow_add-j c = omega (arith, c.requires.3, lift-room c.requires.0 c.requires.1)

pub overflow_mul-i : goal.overflow_mul-i
overflow_mul-i c = omega (arith, c.requires.3, lift-room c.requires.0 c.requires.1)

pub overflow_add-i : goal.overflow_add-i
overflow_add-i c = omega (arith, c.requires.3, lift-room c.requires.0 c.requires.1)

pub overflow_mul-m : goal.overflow_mul-m
overflow_mul-m c = omega (arith, c.requires.3, lift-room c.requires.0 c.requires.1)

pub shift-requires : goal.shift-requires
shift-requires c = omega (arith, c.requires.3, lift-room c.requires.0 c.requires.1)

pub slide-requires : goal.slide-requires
slide-requires c =
    let r = lift-room c.requires.0 c.requires.1 in
    let n : get_or c.shift.new.w 0 0 ≡ get_or c.args.w.now 0 0 = c.shift.ensures.low 0 (omega arith) in
    omega (arith, c.shift.ensures.size, c.requires.2, c.requires.3)

pub returns : goal.returns
returns c = lift-done c.requires.0 c.requires.1 c.requires.3 c.requires.2 c.shift.ensures c.slide.ensures

-- Words are ready before every call. A byte past the end is 0, and ends the sequence. Assumes nothing.
use Rattle.std.proofs.Common.{refl, ◌∙◌, arith}
use Rattle.scope_calls.proofs.Keep as keep
use Rattle.scope_calls.proofs.play.Goals as goal

pub loop-w-init : goal.loop-w-init
loop-w-init g c = (c.begin.ensures, refl, omega arith, omega arith)

pub next-done-requires : goal.next-done-requires
next-done-requires g c = let l = keep.inside c.byte.ensures c.loop-w-test.true in (c.loop-w.invariant.0, omega (arith, l, c.requires.2))

pub alike-same-requires : goal.alike-same-requires
alike-same-requires g c = c.next-done.ensures

pub overflow_add-i : goal.overflow_add-i
overflow_add-i g c = let l = keep.inside c.byte.ensures c.loop-w-test.true in omega (arith, l, c.requires.2)

pub loop-w-smaller : goal.loop-w-smaller
loop-w-smaller g c = let l = keep.inside c.byte.ensures c.loop-w-test.true in omega (arith, l)

pub loop-w-preserved : goal.loop-w-preserved
loop-w-preserved g c = let l = keep.inside c.byte.ensures c.loop-w-test.true in (c.next-done.ensures, c.next-done.auto.w ∙ c.loop-w.invariant.1, omega (arith, c.loop-w.invariant.2), omega (arith, l))

pub show-requires : goal.show-requires
show-requires g c = c.loop-w.invariant.0

pub overflow_add-result : goal.overflow_add-result
overflow_add-result g c = omega (arith, c.loop-w.invariant.3, c.requires.2)

pub shape_of-w : goal.shape_of-w
shape_of-w g c = c.loop-w.invariant.1 ∙ c.begin.auto.w

pub returns : goal.returns
returns g c = (omega (arith, c.loop-w.invariant.2), c.loop-w.invariant.0.good.long)

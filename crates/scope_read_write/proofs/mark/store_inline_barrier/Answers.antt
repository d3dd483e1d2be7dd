-- From the root inwards. Assumes nothing.
use Rattle.std.proofs.Common.{◌≡◌, get_or, arith}
use Rattle.scope_find.proofs.Touch as touch
use Rattle.scope_read_write.proofs.mark.store_inline_barrier.Goals as goal

pub loop-k-init : goal.loop-k-init
loop-k-init c = touch.barred-none c.args.w.now

pub store_bar-requires : goal.store_bar-requires
store_bar-requires c =
    let t = c.loop-k.invariant.touched in
    (touch.touched-good c.requires t, omega (arith, t.low 2 (omega arith) (λ i n e. omega arith)))

pub loop-k-preserved : goal.loop-k-preserved
loop-k-preserved c = touch.barred-more c.requires c.loop-k.invariant (omega arith) c.store_bar.ensures

pub returns : goal.returns
returns c =
    let e : c.loop-k.k ≡ get_or c.args.w.now 2 0 = omega arith in
    touch.barred-all c.requires (rw e at c.loop-k.invariant)

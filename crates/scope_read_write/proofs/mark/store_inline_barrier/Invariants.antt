-- From the root inwards. Assumes nothing.
use Rattle.scope_find.proofs.Touch as touch
use Rattle.scope_read_write.proofs.mark.store_inline_barrier.Given as goal

abbrev pub invariant-loop-k : goal.invariant-loop-k
invariant-loop-k l = touch.Barred l.initial.w l.w l.k

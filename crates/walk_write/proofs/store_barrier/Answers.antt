-- By the phase. Assumes nothing.
use Rattle.std.proofs.Common.{sym, ◌∙◌}
use Rattle.walk_write.proofs.Marks.{barrier-off, barrier-on}
use Rattle.walk_write.proofs.store_barrier.Goals as goal

pub returns-else-not-inlining : goal.returns-else-not-inlining
returns-else-not-inlining c = barrier-off c.requires (sym c.inlining.ensures ∙ c.if-not-inlining.false)

pub returns-then-not-inlining : goal.returns-then-not-inlining
returns-then-not-inlining c = barrier-on c.requires (sym c.inlining.ensures ∙ c.if-not-inlining.true) c.store_inline_barrier.ensures

-- By the phase. Assumes nothing.
use Rattle.std.proofs.Common.{sym, ◌∙◌}
use Rattle.walk_write.proofs.Marks.{caught-off, caught-on}
use Rattle.walk_write.proofs.mark_caught.Goals as goal

pub returns-then-not-inlining : goal.returns-then-not-inlining
returns-then-not-inlining c = caught-on c.args.i (sym c.inlining.ensures ∙ c.if-not-inlining.true) c.prevent_bound.ensures

pub returns-else-not-inlining : goal.returns-else-not-inlining
returns-else-not-inlining c = caught-off c.args.i c.requires.0 (sym c.inlining.ensures ∙ c.if-not-inlining.false)

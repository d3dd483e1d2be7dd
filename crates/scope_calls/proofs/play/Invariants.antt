-- Words are ready before every call. A byte past the end is 0, and ends the sequence. Assumes nothing.
use Rattle.std.proofs.Common.{◌≡◌, ◌+◌, ◌-◌, ◌≤◌, length}
use Rattle.words_nodes.specs.Nodes.{Planted}
use Rattle.scope_calls.proofs.play.Given as goal

abbrev pub invariant-loop-w : goal.invariant-loop-w
invariant-loop-w g l = Planted l.w × (length l.w ≡ length l.initial.w) × (l.from ≤ l.i) × (l.i ≤ length l.s + 4)

abbrev pub decreases-loop-w : goal.decreases-loop-w
decreases-loop-w g l = length l.s + 4 - l.i

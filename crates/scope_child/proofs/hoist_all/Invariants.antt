-- Binding by binding, the oldest first. Assumes nothing.
use Rattle.std.proofs.Common.{◌≡◌, ◌-◌, ◌%◌, ◌≤◌, get_or}
use Rattle.words_scopes.specs.State.{stack, Past, Becomes}
use Rattle.scope_child.specs.Hoist.{record_at, hoist_up, end_up}
use Rattle.scope_child.proofs.hoist_all.Given as goal

abbrev pub invariant-loop-j : goal.invariant-loop-j
invariant-loop-j l = (get_or l.w 1 0 ≤ l.j) × Past l.j l.initial.w l.w × Becomes l.initial.w l.w (hoist_up (λ i. record_at l.initial.w i) l.a (l.j - l.a) (stack l.initial.w)) × (get_or l.w 3 0 ≡ get_or l.initial.w 3 0) × (l.ended ≡ end_up (λ i. record_at l.initial.w i) l.a (l.j - l.a) (stack l.initial.w) % 4294967296)

-- Scope by scope, the current one first: the invariant is that the answer is that of the scopes left. Assumes nothing.
use Prim.Native.Nat.{◌+◌, ◌-◌, ◌≤◌}
use mathlib.Core.Path.{◌≡◌}
use lib.ListN.{get_or}
use Rattle.words_scopes.specs.State.{Fits, CFits, heads_at, stack, off, coff}
use Rattle.words_scopes.proofs.Look.{outer}
use Rattle.scope_values.specs.Outwards.{stops_at}
use Rattle.scope_values.proofs.Outwards.{later}
use Rattle.scope_values.proofs.stops_at.Given as goal

abbrev pub invariant-loop-k : goal.invariant-loop-k
invariant-loop-k l = (l.d ≡ get_or l.w 2 0) × (l.e ≤ get_or l.w 1 0) × (l.c ≤ get_or l.w 3 0) × Fits (heads_at l.w l.k) l.e × CFits (heads_at l.w l.k) l.c
    × (l.sum + (off l.w l.e + coff l.w l.c) ≡ l.n + (off l.w (get_or l.w 1 0) + coff l.w (get_or l.w 3 0))) × (stops_at l.n (stack l.w) ≡ later (l.d - l.k) (stops_at l.sum (outer l.w l.k l.e l.c)))

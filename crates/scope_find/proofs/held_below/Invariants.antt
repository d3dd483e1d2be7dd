-- Outwards: the invariant is that the answer is that of the scopes left. Assumes nothing.
use Rattle.std.proofs.Common.{◌≡◌}
use Rattle.words.specs.Place.{placed}
use Rattle.scope_find.specs.Look.{below, held, place_below}
use Rattle.scope_find.proofs.held_below.Given as goal

abbrev pub invariant-loop-k : goal.invariant-loop-k
invariant-loop-k l = (held l.x (below l.w l.d) ≡ held l.x (below l.w l.k)) × (placed l.p ≡ place_below l.w l.x l.k)

-- Outwards: the invariant is that the answer is that of the scopes left. Assumes nothing.
use Rattle.std.proofs.Common.{◌≡◌, true}
use Rattle.def_pass.specs.Scope.{scope_for}
use Rattle.words_scopes.specs.State.{stack, heads, binds, place}
use Rattle.scope_find.specs.Look.{below, place_below}
use Rattle.scope_find.proofs.bound_outwards.Given as goal

abbrev pub invariant-loop-k : goal.invariant-loop-k
invariant-loop-k l = ((scope_for true l.x (stack l.w)).0 ≡ (scope_for true l.x (below l.w l.k)).0) × (place l.x (heads l.w) (binds l.w) ≡ place_below l.w l.x l.k)

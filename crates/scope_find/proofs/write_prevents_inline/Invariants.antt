-- Outwards: the invariant is that the answer is that of the scopes left. Assumes nothing.
use Rattle.std.proofs.Common.{◌≡◌}
use Rattle.def_pass.specs.Scope.{write_prevents_inline}
use Rattle.words_scopes.specs.State.{stack, heads, binds, place}
use Rattle.scope_find.specs.Look.{below, place_below}
use Rattle.scope_find.proofs.write_prevents_inline.Given as goal

abbrev pub invariant-loop-k : goal.invariant-loop-k
invariant-loop-k l = (write_prevents_inline l.x (stack l.w) ≡ write_prevents_inline l.x (below l.w l.k)) × (place l.x (heads l.w) (binds l.w) ≡ place_below l.w l.x l.k)

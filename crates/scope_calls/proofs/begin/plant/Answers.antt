-- The nodes one after the other, and then they are one tree. Assumes nothing.
use Rattle.std.proofs.Common.{◌≡◌, ℕ, map, take, arith, subst}
use Rattle.scope_calls.specs.Begun.{Begun}
use Rattle.scope_calls.proofs.Keep as keep
use Rattle.scope_calls.proofs.begin.plant.Goals as goal

pub loop-kind-init : goal.loop-kind-init
loop-kind-init c = keep.cleared c.requires c.clear.ensures

pub grow-requires : goal.grow-requires
grow-requires c = keep.room c.loop-kind.kind-index (omega arith) _ c.loop-kind.invariant

pub loop-kind-preserved : goal.loop-kind-preserved
loop-kind-preserved c = keep.one_more c.loop-kind.kind-index (omega arith) _ (c.grow.ensures _ c.loop-kind.invariant)

pub returns : goal.returns
returns c = let e : c.loop-kind.kind-index ≡ 11 = omega arith in keep.begun-planted (subst (λ (k : ℕ). Begun c.loop-kind.w (map keep.node-of (take k keep.given))) e c.loop-kind.invariant)

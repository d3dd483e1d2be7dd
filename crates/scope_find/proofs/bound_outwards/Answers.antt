-- Outwards: the invariant is that the answer is that of the scopes left. Assumes nothing.
use Rattle.std.proofs.Common.{◌≡◌, true, suc, ◌-◌, sym, ap, ◌∙◌, arith}
use Rattle.def_pass.specs.Scope.{Stack, scope_for}
use Rattle.scope_find.specs.Look.{scope_at, below, place_below}
use Rattle.scope_find.proofs.Placed as places
use Rattle.scope_find.proofs.Facts as facts
use Rattle.scope_find.proofs.Out as out
use Rattle.scope_find.proofs.bound_outwards.Goals as goal

pub loop-k-init : goal.loop-k-init
loop-k-init c = (ap (λ (st : Stack). (scope_for true c.args.x st).0) (out.below_all c.args.w.now), places.placed-all c.args.w.now c.args.x)

pub found_in-requires : goal.found_in-requires
found_in-requires c =
    let k = c.loop-k.k in
    let q : k ≡ suc (k - 1) = omega arith in
    ((c.requires, omega arith), c.loop-k.invariant.1 ∙ ap (place_below c.args.w.now c.args.x) q)

pub returns-then-is_some : goal.returns-then-is_some
returns-then-is_some c =
    let w = c.args.w.now in
    let k = c.loop-k.k in
    sym (c.loop-k.invariant.0 ∙ ap (λ (st : Stack). (scope_for true c.args.x st).0) (out.turn w k c.requires (omega arith) (omega arith))
    ∙ facts.for-bound c.args.x true (scope_at w (k - 1)) (below w (k - 1)) (out.has-it c.found_in.result c.found_in.ensures c.is_some.ensures ∙ c.if-is_some.true))

pub returns-then-const_in : goal.returns-then-const_in
returns-then-const_in c =
    let w = c.args.w.now in
    let k = c.loop-k.k in
    let n = out.has-it c.found_in.result c.found_in.ensures c.is_some.ensures ∙ c.if-is_some.false in
    sym (c.loop-k.invariant.0 ∙ ap (λ (st : Stack). (scope_for true c.args.x st).0) (out.turn w k c.requires (omega arith) (omega arith))
    ∙ facts.for-const c.args.x (scope_at w (k - 1)) n true (below w (k - 1)) (sym c.const_in.ensures ∙ c.if-const_in.true))

pub loop-k-preserved : goal.loop-k-preserved
loop-k-preserved c =
    let w = c.args.w.now in
    let k = c.loop-k.k in
    let q : k ≡ suc (k - 1) = omega arith in
    let n = out.has-it c.found_in.result c.found_in.ensures c.is_some.ensures ∙ c.if-is_some.false in (
      c.loop-k.invariant.0 ∙ ap (λ (st : Stack). (scope_for true c.args.x st).0) (out.turn w k c.requires (omega arith) (omega arith))
          ∙ facts.for-on c.args.x (scope_at w (k - 1)) n (below w (k - 1)) (sym c.const_in.ensures ∙ c.if-const_in.false) true true,
      c.loop-k.invariant.1 ∙ ap (place_below w c.args.x) q ∙ places.outer-none w c.requires (k - 1) (omega arith) c.args.x n,
    )

pub returns : goal.returns
returns c = sym (c.loop-k.invariant.0 ∙ ap (λ (st : Stack). (scope_for true c.args.x st).0) (out.below_end c.args.w.now c.loop-k.k (omega arith)))

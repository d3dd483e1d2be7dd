-- Outwards: the invariant is that the answer is that of the scopes left. Assumes nothing.
use Rattle.std.proofs.Common.{◌≡◌, suc, ◌-◌, refl, sym, ap, ◌∙◌, arith}
use Rattle.def_pass.specs.Scope.{is_hoisted_prevented}
use Rattle.scope_find.specs.Look.{scope_at, below, held, place_below}
use Rattle.scope_find.proofs.Facts as facts
use Rattle.scope_find.proofs.Out as out
use Rattle.scope_find.proofs.held_below.Goals as goal

pub loop-k-init : goal.loop-k-init
loop-k-init c = (refl, c.requires.2)

pub returns-then-flag_at : goal.returns-then-flag_at
returns-then-flag_at c =
    let w = c.args.w.now in
    let k = c.loop-k.k in
    sym (c.loop-k.invariant.0 ∙ ap (held c.args.x) (out.turn w k c.requires.0 (omega arith) (omega (arith, c.requires.1)))
    ∙ facts.held-unresolved c.args.x (scope_at w (k - 1)) (below w (k - 1)) (facts.unresolved-at w (k - 1) c.args.x (omega arith) ∙ sym c.flag_at.ensures ∙ c.if-flag_at.true))

pub found_from-requires : goal.found_from-requires
found_from-requires c =
    let k = c.loop-k.k in
    let q : k ≡ suc (k - 1) = omega arith in
    ((c.requires.0, omega (arith, c.requires.1)), c.loop-k.invariant.1 ∙ ap (place_below c.args.w.now c.args.x) q)

pub returns-then-hoisted_prevented : goal.returns-then-hoisted_prevented
returns-then-hoisted_prevented c =
    let w = c.args.w.now in
    let k = c.loop-k.k in
    sym (c.loop-k.invariant.0 ∙ ap (held c.args.x) (out.turn w k c.requires.0 (omega arith) (omega (arith, c.requires.1)))
    ∙ facts.held-hoisted c.args.x (scope_at w (k - 1)) (below w (k - 1)) (ap is_hoisted_prevented c.found_from.ensures.is ∙ sym c.hoisted_prevented.ensures ∙ c.if-hoisted_prevented.true))

pub outside-p-requires : goal.outside-p-requires
outside-p-requires c =
    let k = c.loop-k.k in
    let q : k ≡ suc (k - 1) = omega arith in
    ((c.requires.0, omega (arith, c.requires.1)), c.loop-k.invariant.1 ∙ ap (place_below c.args.w.now c.args.x) q)

pub loop-k-preserved : goal.loop-k-preserved
loop-k-preserved c =
    let w = c.args.w.now in
    let k = c.loop-k.k in (
      c.loop-k.invariant.0 ∙ ap (held c.args.x) (out.turn w k c.requires.0 (omega arith) (omega (arith, c.requires.1)))
          ∙ facts.held_next c.args.x (scope_at w (k - 1)) (below w (k - 1)) (facts.unresolved-at w (k - 1) c.args.x (omega arith) ∙ sym c.flag_at.ensures ∙ c.if-flag_at.false) (ap is_hoisted_prevented c.found_from.ensures.is ∙ sym c.hoisted_prevented.ensures ∙ c.if-hoisted_prevented.false),
      c.outside-p.ensures,
    )

pub returns : goal.returns
returns c = sym (c.loop-k.invariant.0 ∙ ap (held c.args.x) (out.below_end c.args.w.now c.loop-k.k (omega arith)))

-- The current scope, and those behind it. Assumes nothing.
use Rattle.std.proofs.Common.{refl, sym, ap, ◌∙◌, arith}
use Rattle.def_pass.specs.Scope.{should_prevent_inline_because_of_scope}
use Rattle.scope_find.specs.Look.{scope_at, below}
use Rattle.scope_find.proofs.Facts as facts
use Rattle.scope_find.proofs.Out as out
use Rattle.scope_find.proofs.Placed as places
use Rattle.scope_find.proofs.should_prevent_inline_because_of_scope.Goals as goal

pub returns-in_default : goal.returns-in_default
returns-in_default c = sym (ap (should_prevent_inline_because_of_scope c.args.x) (out.none-open c.args.w.now (sym c.in_default.ensures)))

pub returns-then-flag_at : goal.returns-then-flag_at
returns-then-flag_at c =
    let w = c.args.w.now in
    let k = c.in-Some.d in
    c.if-flag_at.true ∙ sym (ap (should_prevent_inline_because_of_scope c.args.x) (out.current w k c.requires c.in-Some.ensures) ∙ facts.should-held c.args.x (scope_at w k) (below w k)
    ∙ rw (facts.unresolved-at w k c.args.x (omega arith) ∙ sym c.flag_at.ensures ∙ c.if-flag_at.true) refl)

pub outside-requires : goal.outside-requires
outside-requires c =
    let w = c.args.w.now in
    ((c.requires, omega (arith, c.in-Some.ensures)), c.find_binding.ensures.place ∙ places.placed-current w c.args.x c.in-Some.d c.in-Some.ensures)

pub held_below-requires : goal.held_below-requires
held_below-requires c = (c.requires, omega (arith, c.in-Some.ensures), c.outside.ensures)

pub returns-else-flag_at : goal.returns-else-flag_at
returns-else-flag_at c =
    let w = c.args.w.now in
    let k = c.in-Some.d in
    c.held_below.ensures ∙ sym (ap (should_prevent_inline_because_of_scope c.args.x) (out.current w k c.requires c.in-Some.ensures) ∙ facts.should-held c.args.x (scope_at w k) (below w k)
    ∙ rw (facts.unresolved-at w k c.args.x (omega arith) ∙ sym c.flag_at.ensures ∙ c.if-flag_at.false) refl)

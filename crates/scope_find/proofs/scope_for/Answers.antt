-- What is found outwards, and whether it is the current scope. Assumes nothing.
use Rattle.std.proofs.Common.{◌≡◌, true, false, ◌-◌, get_or, sym, ◌∙◌, arith}
use borrow.Author.Tests.{le-leb}
use Rattle.def_pass.specs.Scope.{is_some, has_in, const_in}
use Rattle.scope_find.specs.Look.{scope_at}
use Rattle.scope_find.proofs.Facts as facts
use Rattle.scope_find.proofs.Out as out
use Rattle.scope_find.proofs.Placed as places
use Rattle.scope_find.proofs.scope_for.Goals as goal
use Rattle.scope_find.proofs.scope_for.Goals.{then-d-le1, else-d-le1}

pub found_in-requires : goal.found_in-requires
found_in-requires c = ((c.requires, omega arith), places.placed-current c.args.w.now c.args.x (get_or c.args.w.now 2 0 - 1) (omega arith))

pub returns-then-is_some : goal.returns-then-is_some
returns-then-is_some c =
    let w = c.args.w.now in
    let x = c.args.x in
    let s = scope_at w (get_or w 2 0 - 1) in
    elim c.if-d-le1.branch [
      | then-d-le1 v ↦ (c.bound_outwards.ensures, c.if-is_some.true ∙ sym (facts.root-current x w c.requires v.if-d-le1.true))
      | else-d-le1 v ↦
          let n : has_in x s.bindings ≡ true = out.has-it v.found_in.result v.found_in.ensures v.is_some.ensures ∙ sym v.value-is ∙ c.if-is_some.true in
          (c.bound_outwards.ensures, c.if-is_some.true ∙ sym (facts.inner-current x w c.requires v.if-d-le1.false ∙ rw n (facts.or-true (is_some (const_in x s.constants)))))
    ]

pub returns-else-is_some : goal.returns-else-is_some
returns-else-is_some c =
    let w = c.args.w.now in
    let x = c.args.x in
    let s = scope_at w (get_or w 2 0 - 1) in
    elim c.if-d-le1.branch [
      | then-d-le1 v ↦ let n : true ≡ false = sym (le-leb (get_or w 2 0) 1 v.if-d-le1.true) ∙ sym v.value-is ∙ c.if-is_some.false in cc
      | else-d-le1 v ↦
          let n : has_in x s.bindings ≡ false = out.has-it v.found_in.result v.found_in.ensures v.is_some.ensures ∙ sym v.value-is ∙ c.if-is_some.false in
          (c.bound_outwards.ensures, c.const_in.ensures ∙ sym (facts.inner-current x w c.requires v.if-d-le1.false ∙ rw n (facts.or-false (is_some (const_in x s.constants)))))
    ]

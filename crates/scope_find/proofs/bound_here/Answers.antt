-- From where the current scope begins to the count. Assumes nothing.
use Rattle.std.proofs.Common.{◌≡◌, suc, get_or, refl, sym, ap, ◌∙◌, arith}
use Rattle.scope_find.specs.Look.{first, bound_here}
use Rattle.scope_find.proofs.Touch as touch
use Rattle.scope_find.proofs.Out as out
use Rattle.scope_find.proofs.bound_here.Goals as goal

pub returns-in_default : goal.returns-in_default
returns-in_default c = sym (ap bound_here (out.none-open c.args.w.now (sym c.in_default.ensures)))

pub overflow_sub-result : goal.overflow_sub-result
overflow_sub-result c = let w = c.args.w.now in omega (arith, c.first_of.ensures, out.first-le w c.requires c.in-Some.d (omega (arith, c.in-Some.ensures)))

pub returns : goal.returns
returns c =
    let w = c.args.w.now in
    let k = c.in-Some.d in
    let s : suc k ≡ get_or w 2 0 = c.in-Some.ensures in
    let n : first w (suc k) ≡ get_or w 1 0 = ap (first w) s ∙ out.first-end w (get_or w 2 0) (omega arith) in
    sym (ap bound_here (out.current w k c.requires s) ∙ touch.size_is w c.requires k (omega (arith, s)) ∙ rw (n, ← c.first_of.ensures) refl)

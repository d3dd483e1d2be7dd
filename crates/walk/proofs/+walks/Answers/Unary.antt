-- The goals of unary. Assumes nothing.
use native.Mathlib.Omega.{arith}
use Rattle.laws_flat.specs.WalkF.{visit_mut_unary_expr_f, visit_mut_update_expr_f}
use Rattle.walk_laws.proofs.Heres as heres
use Rattle.walk_laws.proofs.Ways as ways
use Rattle.walk.proofs.+walks.Goals as goal

pub unary-form_at-f-requires : goal.unary-form_at-f-requires
unary-form_at-f-requires t c = heres.at-node c.requires

pub unary-kids-requires : goal.unary-kids-requires
unary-kids-requires t c = (omega (arith, c.decreases), c.requires)

pub unary-returns-then-f-ne-DELETE : goal.unary-returns-then-f-ne-DELETE
unfolding visit_mut_unary_expr_f
unary-returns-then-f-ne-DELETE t c = ways.iff-no _ _ (ways.form-no c.requires 6 c.form_at-f.ensures c.if-f-ne-DELETE.true) c.kids.ensures

pub unary-returns : goal.unary-returns
unfolding visit_mut_unary_expr_f visit_mut_update_expr_f
unary-returns t c = ways.iff-yes _ _ (ways.form-yes c.requires c.form_at-f.ensures c.if-f-ne-DELETE.false) c.update.ensures

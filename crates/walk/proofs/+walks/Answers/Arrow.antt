-- The goals of arrow. Assumes nothing.
use mathlib.Core.Bool.{false}
use native.Mathlib.Omega.{arith}
use Rattle.def_pass.specs.Scope.{fn as fn_kind}
use Rattle.def_pass.specs.Walk.{opening}
use Rattle.laws_flat.specs.WalkF.{walks_f, plain_f, visit_mut_arrow_expr_f}
use Rattle.walk_laws.proofs.Heres as heres
use Rattle.walk_laws.proofs.Ways as ways
use Rattle.walk.proofs.+walks.Goals as goal

pub arrow-returns-in_err-enter : goal.arrow-returns-in_err-enter
unfolding visit_mut_arrow_expr_f
arrow-returns-in_err-enter t c = ways.did-exit c.from_residual.result c.from_residual.ensures.1 (ways.scope-full (fn_kind false) (plain_f (walks_f c.args.below) c.args.depth c.args.node) c.in_err-enter.ensures.did)

pub arrow-kids-requires : goal.arrow-kids-requires
arrow-kids-requires t c = (omega (arith, c.decreases), (heres.here-rest (opening (fn_kind false)) c.in_ok-enter.ensures.did c.requires))

pub arrow-returns-in_err-j : goal.arrow-returns-in_err-j
unfolding visit_mut_arrow_expr_f
arrow-returns-in_err-j t c = ways.did-exit c.from_residual-in_err-j.result c.from_residual-in_err-j.ensures.1 (ways.scope-stop (fn_kind false) (plain_f (walks_f c.args.below) c.args.depth c.args.node) c.in_ok-enter.ensures.did c.in_err-j.ensures)

pub arrow-returns : goal.arrow-returns
unfolding visit_mut_arrow_expr_f
arrow-returns t c = ways.scope_then (fn_kind false) (plain_f (walks_f c.args.below) c.args.depth c.args.node) c.in_ok-enter.ensures.did c.in_ok-j.ensures c.save_fields-before.ensures c.leave.ensures

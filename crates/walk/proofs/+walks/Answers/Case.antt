-- The goals of case. Assumes nothing.
use native.Mathlib.Omega.{arith}
use Rattle.def_pass.specs.Scope.{block as block_kind}
use Rattle.def_pass.specs.Walk.{opening}
use Rattle.laws_flat.specs.WalkF.{walks_f, visit_mut_switch_case_f}
use Rattle.walk_laws.specs.Did.{items_f}
use Rattle.walk_laws.proofs.Heres as heres
use Rattle.walk_laws.proofs.Ways as ways
use Rattle.walk.proofs.+walks.Goals as goal

pub case-returns-in_err-enter : goal.case-returns-in_err-enter
unfolding visit_mut_switch_case_f
case-returns-in_err-enter t c = ways.did-exit c.from_residual.result c.from_residual.ensures.1 (ways.scope-full block_kind (items_f (walks_f c.args.below) c.args.depth c.args.node) c.in_err-enter.ensures.did)

pub case-items-requires : goal.case-items-requires
case-items-requires t c = (omega (arith, c.decreases), (heres.here-rest (opening block_kind) c.in_ok-enter.ensures.did c.requires))

pub case-returns-in_err-j : goal.case-returns-in_err-j
unfolding visit_mut_switch_case_f
case-returns-in_err-j t c = ways.did-exit c.from_residual-in_err-j.result c.from_residual-in_err-j.ensures.1 (ways.scope-stop block_kind (items_f (walks_f c.args.below) c.args.depth c.args.node) c.in_ok-enter.ensures.did c.in_err-j.ensures)

pub case-returns : goal.case-returns
unfolding visit_mut_switch_case_f
case-returns t c = ways.scope_then block_kind (items_f (walks_f c.args.below) c.args.depth c.args.node) c.in_ok-enter.ensures.did c.in_ok-j.ensures c.save_fields-before.ensures c.leave.ensures

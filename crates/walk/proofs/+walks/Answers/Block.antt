-- The goals of block. Assumes nothing.
use native.Mathlib.Omega.{arith}
use Rattle.def_pass.specs.Scope.{block as block_kind}
use Rattle.def_pass.specs.Walk.{opening}
use Rattle.laws_flat.specs.WalkF.{walks_f, visit_mut_block_stmt_f, script_f}
use Rattle.walk_laws.proofs.Heres as heres
use Rattle.walk_laws.proofs.Ways as ways
use Rattle.walk.proofs.+walks.Goals as goal

pub block-returns-in_err-enter : goal.block-returns-in_err-enter
unfolding visit_mut_block_stmt_f script_f
block-returns-in_err-enter t c = ways.did-exit c.from_residual.result c.from_residual.ensures.1 (ways.scope-full block_kind (script_f (walks_f c.args.below) c.args.depth c.args.node) c.in_err-enter.ensures.did)

pub block-body-requires : goal.block-body-requires
block-body-requires t c = (omega (arith, c.decreases), (heres.here-rest (opening block_kind) c.in_ok-enter.ensures.did c.requires))

pub block-returns-in_err-j : goal.block-returns-in_err-j
unfolding visit_mut_block_stmt_f script_f
block-returns-in_err-j t c = ways.did-exit c.from_residual-in_err-j.result c.from_residual-in_err-j.ensures.1 (ways.scope-stop block_kind (script_f (walks_f c.args.below) c.args.depth c.args.node) c.in_ok-enter.ensures.did c.in_err-j.ensures)

pub block-returns : goal.block-returns
unfolding visit_mut_block_stmt_f script_f
block-returns t c = ways.scope_then block_kind (script_f (walks_f c.args.below) c.args.depth c.args.node) c.in_ok-enter.ensures.did c.in_ok-j.ensures c.save_fields-before.ensures c.leave.ensures

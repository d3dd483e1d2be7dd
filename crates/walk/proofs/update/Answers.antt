-- `update` meets its contract: the step, then past the tree. Assumes nothing.
use mathlib.Core.Bool.{true}
use Rattle.def_pass.specs.Tree.{kids}
use Rattle.def_pass.specs.Walk.{write_forest}
use Rattle.laws_flat.specs.WalkF.{visit_mut_update_expr_f}
use Rattle.walk_laws.proofs.Laws as laws
use Rattle.walk_laws.proofs.Heres as heres
use Rattle.walk_laws.proofs.Ways as ways
use Rattle.walk.proofs.update.Goals as goal

pub write_kids-requires : goal.write_kids-requires
write_kids-requires c = heres.at-skip c.requires

pub returns-in_err-write_kids : goal.returns-in_err-write_kids
unfolding visit_mut_update_expr_f
returns-in_err-write_kids c = ways.did-exit c.from_residual.result c.from_residual.ensures.1 (laws.act-stop _ c.in_err-write_kids.ensures)

pub skip-requires : goal.skip-requires
skip-requires c = heres.at-skip (heres.here-tree (λ t. write_forest true (kids t)) c.args.node c.in_ok-write_kids.ensures c.requires)

pub returns : goal.returns
unfolding visit_mut_update_expr_f
returns c = laws.act-then _ c.in_ok-write_kids.ensures (ways.did-skip c.args.node c.in_ok-write_kids.ensures.ok.planted c.skip.ensures.0)

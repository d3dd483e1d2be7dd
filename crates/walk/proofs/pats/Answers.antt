-- `pats` meets its contract: the step, then past the tree. Assumes nothing.
use Rattle.def_pass.specs.Walk.{when, is_bind, pat_by}
use Rattle.laws_flat.specs.WalkF.{visit_mut_pat_f}
use Rattle.walk_laws.proofs.Laws as laws
use Rattle.walk_laws.proofs.Heres as heres
use Rattle.walk_laws.proofs.Ways as ways
use Rattle.walk.proofs.pats.Goals as goal

pub pat_step-requires : goal.pat_step-requires
pat_step-requires c = heres.at-skip c.requires

pub returns-in_err-pat_step : goal.returns-in_err-pat_step
unfolding visit_mut_pat_f
returns-in_err-pat_step c = ways.did-exit c.from_residual.result c.from_residual.ensures.1 (laws.act-stop _ c.in_err-pat_step.ensures)

pub skip-requires : goal.skip-requires
skip-requires c = heres.at-skip (heres.here-tree (λ t s. when (is_bind t) (pat_by s.pat_mode t) s) c.args.node c.in_ok-pat_step.ensures c.requires)

pub returns : goal.returns
unfolding visit_mut_pat_f
returns c = laws.act-then _ c.in_ok-pat_step.ensures (ways.did-skip c.args.node c.in_ok-pat_step.ensures.ok.planted c.skip.ensures.0)

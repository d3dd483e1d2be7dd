-- The goals of body. Assumes nothing.
use native.Mathlib.Omega.{arith}
use Rattle.laws_flat.specs.WalkF.{walks_f, visit_mut_stmts_f, script_f}
use Rattle.walk_laws.proofs.Heres as heres
use Rattle.walk_laws.proofs.Ways as ways
use Rattle.walk.proofs.+walks.Goals as goal

pub body-arity_at-n-requires : goal.body-arity_at-n-requires
body-arity_at-n-requires t c = heres.at-node c.requires

pub body-overflow_add-depth : goal.body-overflow_add-depth
body-overflow_add-depth t c = omega (arith, c.requires.depth, (heres.at-node c.requires).1)

pub body-overflow_add-node : goal.body-overflow_add-node
body-overflow_add-node t c = omega (arith, c.requires.depth, (heres.at-node c.requires).1)

pub body-stmts-requires : goal.body-stmts-requires
body-stmts-requires t c = (omega (arith, c.decreases), (heres.here-kids c.requires c.arity_at-n.ensures))

pub body-returns : goal.body-returns
unfolding script_f
body-returns t c = ways.on-kids (visit_mut_stmts_f (walks_f c.args.below)) c.requires c.arity_at-n.ensures c.stmts.ensures

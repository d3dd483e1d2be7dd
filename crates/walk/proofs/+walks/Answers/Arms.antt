-- The goals of arms. Assumes nothing.
use native.Mathlib.Omega.{arith}
use Rattle.def_tree.proofs.Sims.{sim-each}
use Rattle.words_scopes.specs.Kinds.{kind_of}
use Rattle.laws_flat.specs.WalkF.{walks_f, visit_with_child_f}
use Rattle.laws_flat.proofs.Sim.{sims, sim-branch}
use Rattle.walk_laws.proofs.Laws as laws
use Rattle.walk_laws.proofs.Heres as heres
use Rattle.walk_laws.proofs.Ways as ways
use Rattle.walk.proofs.+walks.Goals as goal

pub arms-loop-k-init : goal.arms-loop-k-init
arms-loop-k-init t c = laws.many-none (visit_with_child_f (walks_f c.args.below) c.args.depth (kind_of c.args.kind)) c.args.node c.requires.planted

pub arms-arm-requires : goal.arms-arm-requires
arms-arm-requires t c = (omega (arith, c.decreases), heres.here-behind (sim-each (sim-branch (sims c.args.below) c.args.depth (kind_of c.args.kind))) c.requires c.loop-k._k c.loop-k-test.true c.loop-k.invariant)

pub arms-returns-in_err-at : goal.arms-returns-in_err-at
arms-returns-in_err-at t c = ways.did-exit c.from_residual.result c.from_residual.ensures.1 (ways.many-stop (visit_with_child_f (walks_f c.args.below) c.args.depth (kind_of c.args.kind)) c.args.node c.loop-k._k c.args.n c.loop-k.invariant c.loop-k-test.true c.in_err-at.ensures)

pub arms-loop-k-preserved : goal.arms-loop-k-preserved
arms-loop-k-preserved t c = ways.many-next (visit_with_child_f (walks_f c.args.below) c.args.depth (kind_of c.args.kind)) c.args.node c.loop-k._k c.args.n c.loop-k.invariant c.in_ok-at.ensures

pub arms-returns : goal.arms-returns
arms-returns t c = ways.many-end (visit_with_child_f (walks_f c.args.below) c.args.depth (kind_of c.args.kind)) c.args.node c.loop-k._k c.args.n c.loop-k.invariant c.loop-k.auto._k-end c.loop-k-test.false

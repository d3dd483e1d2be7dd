-- The goals of many. Assumes nothing.
use native.Mathlib.Omega.{arith}
use Rattle.def_tree.proofs.Sims.{sim-each}
use Rattle.laws_flat.specs.WalkF.{walks_f}
use Rattle.laws_flat.proofs.Sim.{sims}
use Rattle.walk_laws.proofs.Laws as laws
use Rattle.walk_laws.proofs.Heres as heres
use Rattle.walk_laws.proofs.Ways as ways
use Rattle.walk.proofs.+walks.Goals as goal

pub many-loop-k-init : goal.many-loop-k-init
many-loop-k-init t c = laws.many-none ((walks_f c.args.below).full c.args.depth) c.args.node c.requires.planted

pub many-full-requires : goal.many-full-requires
many-full-requires t c = (omega (arith, c.decreases), heres.here-behind (sim-each ((sims c.args.below).full c.args.depth)) c.requires c.loop-k._k c.loop-k-test.true c.loop-k.invariant)

pub many-returns-in_err-at : goal.many-returns-in_err-at
many-returns-in_err-at t c = ways.did-exit c.from_residual.result c.from_residual.ensures.1 (ways.many-stop ((walks_f c.args.below).full c.args.depth) c.args.node c.loop-k._k c.args.n c.loop-k.invariant c.loop-k-test.true c.in_err-at.ensures)

pub many-loop-k-preserved : goal.many-loop-k-preserved
many-loop-k-preserved t c = ways.many-next ((walks_f c.args.below).full c.args.depth) c.args.node c.loop-k._k c.args.n c.loop-k.invariant c.in_ok-at.ensures

pub many-returns : goal.many-returns
many-returns t c = ways.many-end ((walks_f c.args.below).full c.args.depth) c.args.node c.loop-k._k c.args.n c.loop-k.invariant c.loop-k.auto._k-end c.loop-k-test.false

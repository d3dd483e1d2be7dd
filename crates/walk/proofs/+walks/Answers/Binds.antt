-- The goals of binds. Assumes nothing.
use mathlib.Core.Path.{refl}
use native.Mathlib.Omega.{arith}
use Rattle.def_tree.proofs.Sims.{sim-each}
use Rattle.laws_flat.specs.WalkF.{walks_f, catch_param_f}
use Rattle.laws_flat.proofs.Sim.{sims, sim-catch_param}
use Rattle.walk_laws.proofs.Laws as laws
use Rattle.walk_laws.proofs.Heres as heres
use Rattle.walk_laws.proofs.Ways as ways
use Rattle.walk.proofs.+walks.Goals as goal

pub binds-loop-k-init : goal.binds-loop-k-init
binds-loop-k-init t c = laws.many-none (catch_param_f (walks_f c.args.below) c.args.depth) c.args.node c.requires.planted

pub binds-full-requires : goal.binds-full-requires
binds-full-requires t c = (omega (arith, c.decreases), (heres.here-behind (sim-each (sim-catch_param (sims c.args.below) c.args.depth)) c.requires c.loop-k._k c.loop-k-test.true c.loop-k.invariant))

pub binds-returns-in_err-j : goal.binds-returns-in_err-j
binds-returns-in_err-j t c = ways.did-exit c.from_residual.result c.from_residual.ensures.1 (ways.many-stop (catch_param_f (walks_f c.args.below) c.args.depth) c.args.node c.loop-k._k c.args.n c.loop-k.invariant c.loop-k-test.true (ways.bound-stop (walks_f c.args.below) c.args.depth c.loop-k.at c.in_err-j.ensures))

pub binds-mark_caught-requires : goal.binds-mark_caught-requires
binds-mark_caught-requires t c = heres.at-skip (heres.here-still ((sims c.args.below).full c.args.depth) (heres.here-behind (sim-each (sim-catch_param (sims c.args.below) c.args.depth)) c.requires c.loop-k._k c.loop-k-test.true c.loop-k.invariant) refl c.in_ok-j.ensures)

pub binds-loop-k-preserved : goal.binds-loop-k-preserved
binds-loop-k-preserved t c = ways.many-next (catch_param_f (walks_f c.args.below) c.args.depth) c.args.node c.loop-k._k c.args.n c.loop-k.invariant (ways.bound-then (walks_f c.args.below) c.args.depth c.loop-k.at c.in_ok-j.ensures c.mark_caught.ensures)

pub binds-returns : goal.binds-returns
binds-returns t c = ways.many-end (catch_param_f (walks_f c.args.below) c.args.depth) c.args.node c.loop-k._k c.args.n c.loop-k.invariant c.loop-k.auto._k-end c.loop-k-test.false

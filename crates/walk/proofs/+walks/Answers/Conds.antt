-- The goals of conds. Assumes nothing.
use native.Mathlib.Omega.{arith}
use Rattle.def_tree.proofs.Sims.{sim-each, sim-within}
use Rattle.def_pass.specs.Scope.{cond as cond_kind}
use Rattle.def_pass.specs.Walk.{opening, restore, deeper, shallower}
use Rattle.laws_flat.specs.WalkF.{walks_f, in_cond_f, visit_with_child_f}
use Rattle.laws_flat.proofs.Sim.{sims}
use Rattle.walk_laws.proofs.Laws as laws
use Rattle.walk_laws.proofs.Heres as heres
use Rattle.walk_laws.proofs.Ways as ways
use Rattle.walk.proofs.+walks.Goals as goal

pub conds-loop-k-init : goal.conds-loop-k-init
conds-loop-k-init t c = laws.many-none (λ r. in_cond_f ((walks_f c.args.below).bare c.args.depth r)) c.args.node c.requires.planted

pub conds-deeper-requires : goal.conds-deeper-requires
conds-deeper-requires t c = (heres.here-behind (sim-each (sim-within deeper shallower (sim-within (opening cond_kind) restore ((sims c.args.below).bare c.args.depth)))) c.requires c.loop-k._k c.loop-k-test.true c.loop-k.invariant).planted

pub conds-returns-in_err-deeper : goal.conds-returns-in_err-deeper
unfolding visit_with_child_f
conds-returns-in_err-deeper t c = ways.did-exit c.from_residual.result c.from_residual.ensures.1 (ways.many-stop (λ r. in_cond_f ((walks_f c.args.below).bare c.args.depth r)) c.args.node c.loop-k._k c.args.n c.loop-k.invariant c.loop-k-test.true (ways.cond-full (visit_with_child_f (walks_f c.args.below) c.args.depth cond_kind c.loop-k.at) c.in_err-deeper.ensures.did))

pub conds-arm-requires : goal.conds-arm-requires
conds-arm-requires t c = (omega (arith, c.decreases), heres.here-rest deeper c.in_ok-deeper.ensures.did (heres.here-behind (sim-each (sim-within deeper shallower (sim-within (opening cond_kind) restore ((sims c.args.below).bare c.args.depth)))) c.requires c.loop-k._k c.loop-k-test.true c.loop-k.invariant))

pub conds-returns-in_err-at : goal.conds-returns-in_err-at
unfolding visit_with_child_f
conds-returns-in_err-at t c = ways.did-exit c.from_residual-in_err-at.result c.from_residual-in_err-at.ensures.1 (ways.many-stop (λ r. in_cond_f ((walks_f c.args.below).bare c.args.depth r)) c.args.node c.loop-k._k c.args.n c.loop-k.invariant c.loop-k-test.true (ways.cond-stop (visit_with_child_f (walks_f c.args.below) c.args.depth cond_kind c.loop-k.at) c.in_ok-deeper.ensures.did c.in_err-at.ensures))

pub conds-loop-k-preserved : goal.conds-loop-k-preserved
unfolding visit_with_child_f
conds-loop-k-preserved t c = ways.many-next (λ r. in_cond_f ((walks_f c.args.below).bare c.args.depth r)) c.args.node c.loop-k._k c.args.n c.loop-k.invariant (ways.cond-then (visit_with_child_f (walks_f c.args.below) c.args.depth cond_kind c.loop-k.at) c.in_ok-deeper.ensures.did c.in_ok-at.ensures c.set_conds.ensures)

pub conds-returns : goal.conds-returns
conds-returns t c = ways.many-end (λ r. in_cond_f ((walks_f c.args.below).bare c.args.depth r)) c.args.node c.loop-k._k c.args.n c.loop-k.invariant c.loop-k.auto._k-end c.loop-k-test.false

-- The goals of loops. Assumes nothing.
use Prim.Native.Nat.{◌-◌}
use native.Mathlib.Omega.{arith}
use Rattle.def_tree.proofs.Sims.{sim-each}
use Rattle.def_pass.specs.Scope.{loop as loop_kind}
use Rattle.laws_flat.specs.WalkF.{walks_f, visit_with_child_f}
use Rattle.laws_flat.proofs.Sim.{sims}
use Rattle.walk_laws.proofs.Heres as heres
use Rattle.walk_laws.proofs.Ways as ways
use Rattle.walk.proofs.+walks.Goals as goal

pub loops-returns-then-n-eq0 : goal.loops-returns-then-n-eq0
loops-returns-then-n-eq0 t c = ways.but-none ((walks_f c.args.below).full c.args.depth) (visit_with_child_f (walks_f c.args.below) c.args.depth loop_kind) c.args.n c.args.node c.if-n-eq0.true c.requires.planted

pub loops-many-requires : goal.loops-many-requires
loops-many-requires t c = (omega (arith, c.decreases), heres.here-less c.requires)

pub loops-returns-in_err-j : goal.loops-returns-in_err-j
loops-returns-in_err-j t c = ways.did-exit c.from_residual.result c.from_residual.ensures.1 (ways.but-stop ((walks_f c.args.below).full c.args.depth) (visit_with_child_f (walks_f c.args.below) c.args.depth loop_kind) c.args.n c.args.node c.if-n-eq0.false c.in_err-j.ensures)

pub loops-arm-requires : goal.loops-arm-requires
loops-arm-requires t c = (omega (arith, c.decreases), heres.here-behind (sim-each ((sims c.args.below).full c.args.depth)) c.requires (c.args.n - 1) (omega (arith, c.if-n-eq0.false)) c.in_ok-j.ensures)

pub loops-returns : goal.loops-returns
loops-returns t c = ways.but-then ((walks_f c.args.below).full c.args.depth) (visit_with_child_f (walks_f c.args.below) c.args.depth loop_kind) c.args.n c.args.node c.if-n-eq0.false c.in_ok-j.ensures c.arm.ensures

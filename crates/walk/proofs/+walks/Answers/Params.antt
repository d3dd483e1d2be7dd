-- The goals of params. Assumes nothing.
use Prim.Native.Nat.{◌-◌}
use native.Mathlib.Omega.{arith}
use Rattle.def_tree.proofs.Sims.{sim-each}
use Rattle.laws_flat.specs.WalkF.{walks_f}
use Rattle.laws_flat.proofs.Sim.{sims}
use Rattle.walk_laws.proofs.Heres as heres
use Rattle.walk_laws.proofs.Ways as ways
use Rattle.walk.proofs.+walks.Goals as goal

pub params-returns-then-n-eq0 : goal.params-returns-then-n-eq0
params-returns-then-n-eq0 t c = ways.but-none ((walks_f c.args.below).full c.args.depth) ((walks_f c.args.below).inner c.args.depth) c.args.n c.args.node c.if-n-eq0.true c.requires.planted

pub params-many-requires : goal.params-many-requires
params-many-requires t c = (omega (arith, c.decreases), heres.here-less c.requires)

pub params-returns-in_err-j : goal.params-returns-in_err-j
params-returns-in_err-j t c = ways.did-exit c.from_residual.result c.from_residual.ensures.1 (ways.but-stop ((walks_f c.args.below).full c.args.depth) ((walks_f c.args.below).inner c.args.depth) c.args.n c.args.node c.if-n-eq0.false c.in_err-j.ensures)

pub params-returns-then-below-eq0 : goal.params-returns-then-below-eq0
params-returns-then-below-eq0 t c = ways.but-then ((walks_f c.args.below).full c.args.depth) ((walks_f c.args.below).inner c.args.depth) c.args.n c.args.node c.if-n-eq0.false c.in_ok-j.ensures (ways.inner-none c.args.depth c.in_ok-j.j c.args.below c.in_ok-j.ensures.ok.planted c.if-below-eq0.true)

pub params-body-requires : goal.params-body-requires
params-body-requires t c = (omega (arith, c.decreases, c.if-below-eq0.false), heres.here-up c.if-below-eq0.false (heres.here-behind (sim-each ((sims c.args.below).full c.args.depth)) c.requires (c.args.n - 1) (omega (arith, c.if-n-eq0.false)) c.in_ok-j.ensures))

pub params-returns : goal.params-returns
params-returns t c = ways.but-then ((walks_f c.args.below).full c.args.depth) ((walks_f c.args.below).inner c.args.depth) c.args.n c.args.node c.if-n-eq0.false c.in_ok-j.ensures (ways.inner_of c.args.depth c.in_ok-j.j c.args.below c.if-below-eq0.false c.body.ensures)

-- The goals of name. Assumes nothing.
use Prim.Native.Nat.{suc, ◌+◌}
use mathlib.Core.Path.{refl}
use native.Mathlib.Omega.{arith}
use Rattle.def_tree.specs.Combine.{skips}
use Rattle.laws_flat.specs.WalkF.{walks_f}
use Rattle.laws_flat.proofs.Sim.{sims}
use Rattle.walk_laws.proofs.Heres as heres
use Rattle.walk_laws.proofs.Ways as ways
use Rattle.walk_laws.proofs.Declrs as declrs
use Rattle.walk.proofs.+walks.Goals as goal

pub name-overflow_add-result : goal.name-overflow_add-result
name-overflow_add-result t c = omega (arith, c.requires.0.depth, (heres.at-node c.requires.0).1)

pub name-returns-then-n-eq0 : goal.name-returns-then-n-eq0
name-returns-then-n-eq0 t c = ways.split-none ((walks_f c.args.below).full (suc c.args.depth)) skips c.args.n (c.args.node + 1) c.if-n-eq0.true c.requires.0.planted

pub name-overflow_add-depth : goal.name-overflow_add-depth
name-overflow_add-depth t c = omega (arith, c.requires.0.depth, (heres.at-node c.requires.0).1)

pub name-overflow_add-node : goal.name-overflow_add-node
name-overflow_add-node t c = omega (arith, c.requires.0.depth, (heres.at-node c.requires.0).1)

pub name-full-requires : goal.name-full-requires
name-full-requires t c = (omega (arith, c.decreases), (heres.here-one c.if-n-eq0.false (heres.here-kids c.requires.0 c.requires.1)))

pub name-returns-in_err-full : goal.name-returns-in_err-full
name-returns-in_err-full t c = ways.did-exit c.from_residual.result c.from_residual.ensures.1 (declrs.name-stop (walks_f c.args.below) ((sims c.args.below).full (suc c.args.depth)) c.requires.0 c.requires.1 c.if-n-eq0.false c.in_err-full.ensures)

pub name-skip-requires : goal.name-skip-requires
name-skip-requires t c = heres.here-below c.args.node (omega arith) (heres.here-still ((sims c.args.below).full (c.args.depth + 1)) (heres.here-one c.if-n-eq0.false (heres.here-kids c.requires.0 c.requires.1)) refl c.in_ok-full.ensures)

pub name-returns : goal.name-returns
name-returns t c = declrs.name-then (walks_f c.args.below) ((sims c.args.below).full (suc c.args.depth)) c.requires.0 c.requires.1 c.if-n-eq0.false c.in_ok-full.ensures c.skip.ensures.0

-- The goals of tail. Assumes nothing.
use native.Mathlib.Omega.{arith}
use Rattle.def_tree.specs.Combine.{skip, many}
use Rattle.def_tree.proofs.Sims.{sim-skip}
use Rattle.laws_flat.specs.WalkF.{walks_f}
use Rattle.walk_laws.proofs.Heres as heres
use Rattle.walk_laws.proofs.Ways as ways
use Rattle.walk.proofs.+walks.Goals as goal

pub tail-returns-then-n-eq0 : goal.tail-returns-then-n-eq0
tail-returns-then-n-eq0 t c = ways.split-none skip (many ((walks_f c.args.below).full c.args.depth)) c.args.n c.args.node c.if-n-eq0.true c.requires.planted

pub tail-skip-j-requires : goal.tail-skip-j-requires
tail-skip-j-requires t c = heres.at-skip (heres.here-one c.if-n-eq0.false c.requires)

pub tail-many-requires : goal.tail-many-requires
tail-many-requires t c = (omega (arith, c.decreases), heres.here-next sim-skip c.requires c.if-n-eq0.false (ways.did-skip c.args.node c.requires.planted c.skip-j.ensures.0))

pub tail-returns : goal.tail-returns
tail-returns t c = ways.split-then skip (many ((walks_f c.args.below).full c.args.depth)) c.args.n c.args.node c.if-n-eq0.false (ways.did-skip c.args.node c.requires.planted c.skip-j.ensures.0) c.many.ensures

-- The goals of kids. Assumes nothing.
use native.Mathlib.Omega.{arith}
use Rattle.def_tree.specs.Combine.{many}
use Rattle.laws_flat.specs.WalkF.{walks_f, plain_f}
use Rattle.walk_laws.proofs.Heres as heres
use Rattle.walk_laws.proofs.Ways as ways
use Rattle.walk.proofs.+walks.Goals as goal

pub kids-arity_at-n-requires : goal.kids-arity_at-n-requires
kids-arity_at-n-requires t c = heres.at-node c.requires

pub kids-overflow_add-depth : goal.kids-overflow_add-depth
kids-overflow_add-depth t c = omega (arith, c.requires.depth, (heres.at-node c.requires).1)

pub kids-overflow_add-node : goal.kids-overflow_add-node
kids-overflow_add-node t c = omega (arith, c.requires.depth, (heres.at-node c.requires).1)

pub kids-many-requires : goal.kids-many-requires
kids-many-requires t c = (omega (arith, c.decreases), (heres.here-kids c.requires c.arity_at-n.ensures))

pub kids-returns : goal.kids-returns
unfolding plain_f
kids-returns t c = ways.on-kids (λ q. many ((walks_f c.args.below).full q)) c.requires c.arity_at-n.ensures c.many.ensures

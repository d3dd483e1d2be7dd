-- The end of a subtree: a loop that counts the trees still open. Assumes nothing.
use mathlib.Core.Path.{ap, ◌∙◌}
use native.Mathlib.Omega.{arith}
use Rattle.def_tree.specs.Tree.{Core}
use Rattle.words.specs.Layout.{tree}
use Rattle.words.proofs.Nodes.{tree-length}
use Rattle.words_nodes.proofs.Loops.{passed_none, passed-more, passed-all}
use Rattle.words_nodes.proofs.Words.{tree-whole, in_tree, few-open, node-here, skipped}
use Rattle.words_nodes.proofs.skip.Goals as goal

pub loop-trees-init : goal.loop-trees-init
loop-trees-init c = passed_none (tree c.args.w.now) c.args.i (rw tree-length c.requires.1)

pub arity_at-requires : goal.arity_at-requires
arity_at-requires c = (c.requires.0.good.long, omega (arith, in_tree c.requires.0 c.loop-trees.invariant.still (omega arith), c.requires.0.good.nodes))

pub overflow_add-trees : goal.overflow_add-trees
overflow_add-trees c = omega (arith, few-open c.requires.0 c.loop-trees.invariant.still (omega arith))

pub overflow_add-at : goal.overflow_add-at
overflow_add-at c = omega (arith, in_tree c.requires.0 c.loop-trees.invariant.still (omega arith), c.requires.0.good.nodes)

pub loop-trees-smaller : goal.loop-trees-smaller
loop-trees-smaller c = omega (arith, in_tree c.requires.0 c.loop-trees.invariant.still (omega arith))

pub loop-trees-preserved : goal.loop-trees-preserved
loop-trees-preserved c = passed-more (tree-whole c.requires.0) c.loop-trees.invariant (omega arith) (c.arity_at.ensures ∙ ap (λ (x : Core). x.arity) (node-here c.requires.0 c.loop-trees.invariant.still (omega arith)))

pub returns : goal.returns
returns c = skipped c.requires.0 c.requires.1 (passed-all (omega arith) c.loop-trees.invariant)

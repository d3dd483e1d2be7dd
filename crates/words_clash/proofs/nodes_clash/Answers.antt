-- Node by node. Assumes nothing.
use Rattle.std.proofs.Common.{refl, sym, ap, ◌∙◌, arith}
use Rattle.def_tree.specs.Tree.{Core}
use Rattle.words_nodes.proofs.Words.{in_tree, few-open, node-here}
use Rattle.words_twice.proofs.Looks.{in-words}
use Rattle.words_clash.proofs.Loops as nodes
use Rattle.words_clash.proofs.nodes_clash.Goals as goal

pub node_clash-requires : goal.node_clash-requires
node_clash-requires c = (c.requires.0, in_tree c.requires.0 c.loop-more.invariant.still (omega arith))

pub returns-then-node_clash : goal.returns-then-node_clash
returns-then-node_clash c = nodes.node-found c.requires.0 (omega arith) c.loop-more.invariant (sym c.node_clash.ensures ∙ c.if-node_clash.true)

pub arity_at-requires : goal.arity_at-requires
arity_at-requires c = in-words c.requires.0 (in_tree c.requires.0 c.loop-more.invariant.still (omega arith))

pub overflow_add-more : goal.overflow_add-more
overflow_add-more c = omega (arith, few-open c.requires.0 c.loop-more.invariant.still (omega arith), c.arity_at.ensures)

pub overflow_add-at : goal.overflow_add-at
overflow_add-at c = let h = in-words c.requires.0 (in_tree c.requires.0 c.loop-more.invariant.still (omega arith)) in omega (arith, h.1)

pub loop-more-smaller : goal.loop-more-smaller
loop-more-smaller c = omega (arith, in_tree c.requires.0 c.loop-more.invariant.still (omega arith))

pub loop-more-preserved : goal.loop-more-preserved
loop-more-preserved c = nodes.node-in c.requires.0 (omega arith) c.loop-more.invariant (sym c.node_clash.ensures ∙ c.if-node_clash.false) (c.arity_at.ensures ∙ ap (λ (y : Core). y.arity) (node-here c.requires.0 c.loop-more.invariant.still (omega arith)))

pub returns : goal.returns
returns c = nodes.without-all c.loop-more.invariant (omega arith) refl

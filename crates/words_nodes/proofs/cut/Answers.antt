-- A second child taken out. Assumes nothing.
use native.Mathlib.Omega.{arith}
use Rattle.words_nodes.proofs.Splice.{inner-in, parent-in, has-kids, fewer-packed, cut-done}
use Rattle.words_nodes.proofs.cut.Goals as goal

pub tree_len-old-requires : goal.tree_len-old-requires
tree_len-old-requires c = (c.requires.0, inner-in c.requires.0 c.requires.1)

pub overflow_sub-left : goal.overflow_sub-left
overflow_sub-left c = omega (arith, has-kids c.requires.0 c.requires.1 c.tree_len-old.ensures.0 c.slide.ensures)

pub put_node-requires : goal.put_node-requires
put_node-requires c = (omega (arith, c.slide.ensures.apart.size), parent-in c.requires.0 c.requires.1, fewer-packed c.node_at-x.ensures (omega arith) (omega arith) (omega arith))

pub returns : goal.returns
returns c = cut-done c.requires.0 c.requires.1 c.tree_len-old.ensures.0 c.slide.ensures c.node_at-x.ensures c.put_node.ensures

-- One tree. Assumes nothing.
use Rattle.scope_read_write.specs.Writes.{forced}
use Rattle.words.specs.Layout.{tree}
use Rattle.words.proofs.Nodes.{tree-length}
use Rattle.words_nodes.proofs.Loops.{open-first}
use Rattle.walk_write.proofs.Shapes.{one-tree}
use Rattle.walk_write.proofs.write_tree.Goals as goal

pub write_trees-requires : goal.write_trees-requires
write_trees-requires c = (c.requires.0, (open-first (tree c.args.w.now) c.args.i (rw tree-length c.requires.1)).trees)

pub returns : goal.returns
returns c = one-tree (forced c.args.how) c.args.i c.requires.1 c.write_trees.ensures

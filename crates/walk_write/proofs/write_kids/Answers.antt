-- The node's children. Assumes nothing.
use mathlib.Core.Bool.{true}
use Rattle.def_pass.specs.Walk.{write_forest}
use Rattle.walk_write.proofs.Shapes.{kids-open, kids-act}
use Rattle.walk_write.proofs.write_kids.Goals as goal

pub write_trees-requires : goal.write_trees-requires
write_trees-requires c = (c.requires.0, kids-open c.requires.0 c.args.i c.requires.1 c.arity_at-n.ensures)

pub returns : goal.returns
returns c = kids-act c.requires.0 c.args.i c.requires.1 c.arity_at-n.ensures (write_forest true) c.write_trees.ensures

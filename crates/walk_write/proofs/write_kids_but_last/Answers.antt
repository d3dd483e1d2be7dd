-- The node's children. Assumes nothing.
use mathlib.Core.Bool.{true}
use Rattle.def_pass.specs.Walk.{write_forest, but_last}
use Rattle.walk_write.proofs.Shapes.{kids-open, kids-act}
use Rattle.walk_write.proofs.write_kids_but_last.Goals as goal

pub write_but_last-requires : goal.write_but_last-requires
write_but_last-requires c = (c.requires.0, kids-open c.requires.0 c.args.i c.requires.1 c.arity_at-n.ensures)

pub returns : goal.returns
returns c = kids-act c.requires.0 c.args.i c.requires.1 c.arity_at-n.ensures ((λ ts. write_forest true (but_last ts))) c.write_but_last.ensures

-- One tree less. Assumes nothing.
use Rattle.scope_read_write.specs.Writes.{forced}
use Rattle.walk_write.proofs.Shapes.{none_last, but-last-act}
use Rattle.walk_write.proofs.write_but_last.Goals as goal

pub returns-then-n-eq0 : goal.returns-then-n-eq0
returns-then-n-eq0 c = none_last (forced c.args.how) c.args.n c.args.i c.if-n-eq0.true c.requires.0

pub returns : goal.returns
returns c = but-last-act (forced c.args.how) c.args.n c.args.i c.if-n-eq0.false c.requires.1 c.write_trees.ensures

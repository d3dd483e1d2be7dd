-- By the flag. Assumes nothing.
use Rattle.walk_write.proofs.Shapes.{args-act, args_none}
use Rattle.walk_write.proofs.write_args.Goals as goal

pub returns-then-not-call : goal.returns-then-not-call
returns-then-not-call c = args_none c.args.n c.args.i c.requires.0 c.if-not-call.true

pub returns : goal.returns
returns c = args-act c.args.n c.args.i c.if-not-call.false c.write_trees.ensures

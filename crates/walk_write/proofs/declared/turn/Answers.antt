-- The node's other words stay. Assumes nothing.
use Rattle.walk_write.proofs.Turned.{turn-done}
use Rattle.walk_write.proofs.declared.turn.Goals as goal

pub returns : goal.returns
returns c = turn-done c.requires.0 c.args.i c.requires.1 c.requires.2 c.node_at-x.ensures.2 c.node_at-x.ensures.3 c.put_node.ensures

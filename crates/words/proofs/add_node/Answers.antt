-- A node stored behind the last, and counted. Assumes nothing.
use Rattle.words.proofs.Stored.{node-added}
use Rattle.words.proofs.add_node.Goals as goal

pub returns : goal.returns
returns c = node-added c.args.w.now c.put_node.new.w c.requires.0 c.put_node.ensures

-- A block, then the nodes. Assumes nothing.
use Rattle.words_clash.proofs.Loops as nodes
use Rattle.words_clash.proofs.clashes.Goals as goal

pub block_clash-requires : goal.block_clash-requires
block_clash-requires c = (c.requires.0, nodes.first-in c.requires.0 c.requires.1)

pub returns-then-block_clash : goal.returns-then-block_clash
returns-then-block_clash c = nodes.whole-block c.requires.0 c.requires.1 c.block_clash.ensures c.if-block_clash.true

pub returns-else-block_clash : goal.returns-else-block_clash
returns-else-block_clash c = nodes.whole-nodes c.requires.0 c.requires.1 c.block_clash.ensures c.if-block_clash.false c.nodes_clash.ensures

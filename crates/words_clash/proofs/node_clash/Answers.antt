-- The node itself, then the blocks among its children, without the last where it is counted with the node. Assumes nothing.
use Rattle.words_resolve.proofs.Parts as parts
use Rattle.words_clash.proofs.Loops as nodes
use Rattle.words_clash.proofs.node_clash.Goals as goal

pub returns-then-own_clash : goal.returns-then-own_clash
returns-then-own_clash c = nodes.node-own c.requires.0 c.requires.1 c.own_clash.ensures c.if-own_clash.true

pub blocks_clash-requires : goal.blocks_clash-requires
blocks_clash-requires c = (c.requires.0, (parts.but-last (parts.all-kids c.requires.0 c.requires.1 c.arity_at-n.ensures) c.saturating_sub.ensures).stands)

pub returns-then-shares : goal.returns-then-shares
returns-then-shares c = nodes.node-shares c.requires.0 c.requires.1 c.own_clash.ensures c.if-own_clash.false c.shares.ensures c.if-shares.true (parts.but-last (parts.all-kids c.requires.0 c.requires.1 c.arity_at-n.ensures) c.saturating_sub.ensures) c.blocks_clash.ensures

pub blocks_clash-requires-else-shares : goal.blocks_clash-requires-else-shares
blocks_clash-requires-else-shares c = (c.requires.0, (parts.all-kids c.requires.0 c.requires.1 c.arity_at-n.ensures).stands)

pub returns-else-shares : goal.returns-else-shares
returns-else-shares c = nodes.node-apart c.requires.0 c.requires.1 c.own_clash.ensures c.if-own_clash.false c.shares.ensures c.if-shares.false (parts.all-kids c.requires.0 c.requires.1 c.arity_at-n.ensures) c.blocks_clash-else-shares.ensures

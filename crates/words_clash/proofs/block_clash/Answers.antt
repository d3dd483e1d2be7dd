-- A block, or another node. Assumes nothing.
use Rattle.std.proofs.Common.{sym, ◌∙◌}
use Rattle.words_clash.proofs.Loops as nodes
use Rattle.words_clash.proofs.block_clash.Goals as goal

pub returns-then-is_block : goal.returns-then-is_block
returns-then-is_block c = nodes.block-some c.requires.0 c.requires.1 (sym c.if-is_block.true ∙ c.is_block.ensures _ c.kind_at.ensures.1) c.block_clash.ensures

pub returns-else-is_block : goal.returns-else-is_block
returns-else-is_block c = nodes.block-none c.requires.0 c.requires.1 c.if-is_block.false (c.is_block.ensures _ c.kind_at.ensures.1)

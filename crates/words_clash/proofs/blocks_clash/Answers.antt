-- Tree by tree. Assumes nothing.
use Rattle.std.proofs.Common.{refl, sym, ◌∙◌, arith}
use Rattle.words_nodes.proofs.Words.{in_tree}
use Rattle.words_clash.proofs.Loops as nodes
use Rattle.words_clash.proofs.blocks_clash.Goals as goal

pub block_clash-requires : goal.block_clash-requires
block_clash-requires c = (c.requires.0, in_tree c.requires.0 c.loop-k.invariant.still (omega (arith, c.loop-k-test.true)))

pub returns-then-block_clash : goal.returns-then-block_clash
returns-then-block_clash c = nodes.block-found c.requires.0 (omega (arith, c.loop-k-test.true)) c.loop-k.invariant (sym c.block_clash.ensures ∙ c.if-block_clash.true)

pub skip-at-requires : goal.skip-at-requires
skip-at-requires c = (c.requires.0, in_tree c.requires.0 c.loop-k.invariant.still (omega (arith, c.loop-k-test.true)))

pub loop-k-preserved : goal.loop-k-preserved
loop-k-preserved c = nodes.block-next c.requires.0 c.loop-k-test.true c.loop-k.invariant (sym c.block_clash.ensures ∙ c.if-block_clash.false) c.skip-at.ensures.0

pub returns : goal.returns
returns c = nodes.without-all c.loop-k.invariant (omega (arith, c.loop-k-test.false)) refl

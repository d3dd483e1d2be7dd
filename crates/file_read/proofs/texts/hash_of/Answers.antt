-- `file_read::texts::hash_of` meets its contract. Assumes nothing.
use Rattle.std.proofs.Common.{take_all, ap, ◌∙◌, arith}
use Rattle.std.specs.List.{fold}
use Rattle.file_read.specs.Text.{hashed, hash_of}
use Rattle.file_read.proofs.texts.hash_of.Goals as goal

pub returns : goal.returns
unfolding hash_of
returns c = c.loop-byte.invariant ∙ ap (fold hashed 0) (take_all c.loop-byte.byte-index c.args.text.now (omega (arith, c.loop-byte.auto.byte-index-end, c.loop-byte-test.false)))

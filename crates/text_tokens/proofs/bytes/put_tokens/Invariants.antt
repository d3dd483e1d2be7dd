-- The tokens so far are written. Assumes nothing.
use Rattle.std.proofs.Common.{◌≡◌, true, length}
use Rattle.number_text.specs.Put.{Puts}
use Rattle.text_tokens.specs.Bytes.{codes_of, fresh_after, rendered}
use Rattle.text_tokens.proofs.bytes.put_tokens.Given as goal

abbrev pub invariant-loop-i : goal.invariant-loop-i
invariant-loop-i l = (l.«at» ≡ length (rendered l.nodes.file.now l.nodes.header (codes_of l.words l.i))) × (l.fresh ≡ fresh_after true (codes_of l.words l.i)) × Puts l.fn.out l.out 0 (rendered l.nodes.file.now l.nodes.header (codes_of l.words l.i))

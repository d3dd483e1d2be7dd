-- The bytes of the tokens so far. Assumes nothing.
use Rattle.std.proofs.Common.{◌≡◌, ◌*◌, ◌≤◌, true, length}
use Rattle.text_tokens.specs.Bytes.{codes_of, fresh_after, rendered}
use Rattle.text_tokens.proofs.bytes.measure.Given as goal

abbrev pub invariant-loop-i : goal.invariant-loop-i
invariant-loop-i l = (l.len ≡ length (rendered l.nodes.file.now l.nodes.header (codes_of l.words l.i))) × (l.fresh ≡ fresh_after true (codes_of l.words l.i)) × (l.len ≤ 131075 * l.i)

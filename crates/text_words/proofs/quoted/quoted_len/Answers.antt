-- Assumes nothing.
use Rattle.std.proofs.Common.{get_or, arith}
use Rattle.text_words.proofs.Escaped.{escaped-rest, escaped-length, one-few, next-length}
use Rattle.text_words.proofs.quoted.quoted_len.Goals as goal

pub overflow_add-len : goal.overflow_add-len
overflow_add-len c =
    let w = c.args.text.now in
    let k = c.loop-c.c-index in
    omega (arith, c.loop-c.invariant, c.escaped_len-len.ensures, escaped-rest w k, escaped-length w, one-few (get_or w k 0))

pub loop-c-preserved : goal.loop-c-preserved
loop-c-preserved c = omega (arith, c.loop-c.invariant, c.escaped_len-len.ensures, next-length c.args.text.now c.loop-c.c-index (omega arith))

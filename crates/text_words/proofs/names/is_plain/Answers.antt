-- Assumes nothing.
use Rattle.std.proofs.Common.{◌≡◌, false, get_or, sym, arith}
use Rattle.def_text.specs.Words.{between}
use Rattle.text_words.proofs.Every.{every-fails, every-holds}
use Rattle.text_words.proofs.names.is_plain.Goals as goal

pub returns-then-not-is_printable : goal.returns-then-not-is_printable
returns-then-not-is_printable c =
    let i = c.loop-c.c-index in
    let e : between 32 126 (get_or c.args.text.now i 0) ≡ false = cc in
    sym (every-fails (between 32 126) c.args.text.now i (omega arith) e)

pub returns : goal.returns
returns c = sym (every-holds (between 32 126) c.args.text.now (λ i l. c.loop-c.invariant i (omega arith)))

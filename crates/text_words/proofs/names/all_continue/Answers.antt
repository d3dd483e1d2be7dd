-- Assumes nothing.
use Rattle.std.proofs.Common.{◌≡◌, false, get_or, sym, arith}
use Rattle.text_words.specs.Words.{continues_name}
use Rattle.text_words.proofs.Every.{every-fails, every-holds}
use Rattle.text_words.proofs.names.all_continue.Goals as goal

pub returns-then-not-continues_name : goal.returns-then-not-continues_name
returns-then-not-continues_name c =
    let i = c.loop-c.c-index in
    let e : continues_name (get_or c.args.text.now i 0) ≡ false = cc in
    sym (every-fails continues_name c.args.text.now i (omega arith) e)

pub returns : goal.returns
returns c = sym (every-holds continues_name c.args.text.now (λ i l. c.loop-c.invariant i (omega arith)))

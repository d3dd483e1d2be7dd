-- Assumes nothing.
use Rattle.std.proofs.Common.{sym, ◌∙◌, arith}
use Rattle.text_words.proofs.Every.{word-full}
use Rattle.text_words.proofs.word.word_len.Goals as goal

pub returns : goal.returns
returns c = let f = word-full c.args.i _ c.requires in record { is = c.from.ensures ∙ sym f.1; few = omega (arith, c.from.ensures, f.0) }

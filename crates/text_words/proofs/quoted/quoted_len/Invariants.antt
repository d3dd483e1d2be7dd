-- The bytes so far, and the quotes. Assumes nothing.
use Rattle.std.proofs.Common.{◌≡◌, ◌+◌, length, take}
use Rattle.def_text.specs.Entry.{escaped}
use Rattle.text_words.proofs.quoted.quoted_len.Given as goal

abbrev pub invariant-loop-c : goal.invariant-loop-c
invariant-loop-c l = l.len ≡ 2 + length (escaped (take l.c-index l.text))

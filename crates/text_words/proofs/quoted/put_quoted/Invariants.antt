-- The quote and the bytes so far are written. Assumes nothing.
use Rattle.std.proofs.Common.{◌≡◌, ◌+◌, ◌∷◌, length, take}
use Rattle.def_text.specs.Entry.{escaped}
use Rattle.number_text.specs.Put.{Puts}
use Rattle.text_words.proofs.quoted.put_quoted.Given as goal

abbrev pub invariant-loop-c : goal.invariant-loop-c
invariant-loop-c l = (l.end ≡ l.«at» + 1 + length (escaped (take l.c-index l.text))) × Puts l.fn.out l.out l.«at» (34 ∷ escaped (take l.c-index l.text))

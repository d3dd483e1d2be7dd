-- No byte so far is outside. Assumes nothing.
use Rattle.std.proofs.Common.{◌≡◌, ℕ, ◌<◌, true, get_or}
use Rattle.def_text.specs.Words.{between}
use Rattle.text_words.proofs.names.is_plain.Given as goal

abbrev pub invariant-loop-c : goal.invariant-loop-c
invariant-loop-c l = (k : ℕ) → k < l.c-index → between 32 126 (get_or l.text k 0) ≡ true

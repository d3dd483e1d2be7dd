-- Each byte so far continues a name. Assumes nothing.
use Rattle.std.proofs.Common.{◌≡◌, ℕ, ◌<◌, true, get_or}
use Rattle.text_words.specs.Words.{continues_name}
use Rattle.text_words.proofs.names.all_continue.Given as goal

abbrev pub invariant-loop-c : goal.invariant-loop-c
invariant-loop-c l = (k : ℕ) → k < l.c-index → continues_name (get_or l.text k 0) ≡ true

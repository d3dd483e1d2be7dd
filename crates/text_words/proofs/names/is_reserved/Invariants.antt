-- None of the words so far is the text. Assumes nothing.
use Rattle.std.proofs.Common.{◌≡◌, ℕ, ◌<◌, false, get_or}
use Rattle.def_file.specs.Script.{same_text}
use Rattle.text_words.specs.declared.word.TheConstants.{RESERVED}
use Rattle.text_words.specs.Words.{bytes_of}
use Rattle.text_words.proofs.Every.{no_entry}
use Rattle.text_words.proofs.names.is_reserved.Given as goal

abbrev pub invariant-loop-word : goal.invariant-loop-word
invariant-loop-word l = (k : ℕ) → k < l.word-index → same_text l.text (bytes_of (get_or RESERVED k no_entry)) ≡ false

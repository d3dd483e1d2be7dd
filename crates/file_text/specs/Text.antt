-- What the printer answers, and what it leaves in both buffers: what `print_entry` says. Assumes nothing: these are definitions.
use Rattle.std.specs.Prelude.{◌≡◌, List, ◌++◌, ℕ, leb, length, drop, Result}
use Rattle.refusal.specs.declared.Refusal.{Refusal}
use Rattle.def_file.specs.Script.{Script}
use Rattle.def_file.specs.Read.{script}
use Rattle.file_write.specs.Written.{Answer, refused as not_written, wrote as written, says}
use Rattle.file_copy.specs.declared.Copied.{Copied}
use Rattle.file_copy.specs.Copy.{numbers, WordsAre}
use Rattle.file_read.specs.Load.{Kept}
use Rattle.def_text.specs.Entry.{Printing, refused, wrote, print_read, print_entry}
use Rattle.text_words.specs.Decimals.{decimal_text}

-- the refusal's number, or the length of what was written
abbrev pub told : Printing → Answer
told (refused n) = not_written n
told (wrote out) = written (length out)

-- the buffer r: a refusal keeps it, and the bytes behind what was written stay
abbrev pub left : List ℕ → Printing → List ℕ
left r (refused n) = r
left r (wrote out) = out ++ drop (length out) r

-- a script's text, or why there is none; the words past the first 16,384 are kept
pub record Wrote (s : Script) (r r' w w' : List ℕ) (a : Result ℕ Refusal) : Type 0 where
  pub is : says a ≡ told (print_read decimal_text (length r) (script s))
  pub leaves : r' ≡ left r (print_read decimal_text (length r) (script s))
  pub kept : Kept w w'

-- the words: refusal 1 keeps them; after all else the first 16,384 are 0 and those past them kept
pub record TextIs (bs r r' w w' : List ℕ) (c : Copied) : Type 0 where
  pub answer : c ≡ numbers (told (print_entry decimal_text (length w) bs (length r)))
  pub result : r' ≡ left r (print_entry decimal_text (length w) bs (length r))
  pub words : WordsAre w w' (leb 16384 (length w))

-- What holds of the canonical form and of its writer (request 11). Assumes nothing: these are definitions.
use Rattle.std.specs.Prelude.{◌≡◌, List, ℕ, ◌≤◌, ◌<◌, length}
use Rattle.def_file.specs.Script.{Script}
use Rattle.def_file.specs.Read.{bad, script, read}
use Rattle.def_file.specs.Write.{file}
use Rattle.def_pass.specs.Entry.{entry}
use Rattle.laws_roundtrip.specs.Fits.{Bytes}
use Rattle.def_canon.specs.Canon.{canon}
use Rattle.def_canon.specs.Entry.{Writing, refused, wrote, canon_entry}
use Rattle.def_canon.specs.Differ.{Differ, SameEnds}

-- "Two readable files get equal bytes exactly when they differ only in text numbering, in unused texts, and by a one-to-one change of contexts"
abbrev pub OneFile : Type 0
OneFile = (as' bs : List ℕ) (a b : Script) → Bytes as' → Bytes bs → read as' ≡ script a → read bs ≡ script b
    → (file (canon a) ≡ file (canon b) → Differ a b) × (Differ a b → file (canon a) ≡ file (canon b))

-- the file of the canonical form is a readable file, read as that form, and no longer than the script's own file
pub record Stands (bs : List ℕ) (s : Script) : Type 0 where
  pub bytes : Bytes (file (canon s))
  pub again : read (file (canon s)) ≡ script (canon s)
  pub short : length (file (canon s)) ≤ length bs

abbrev pub CanonReadable : Type 0
CanonReadable = (bs : List ℕ) (s : Script) → Bytes bs → read bs ≡ script s → Stands bs s

-- "Writing an already written file changes nothing"
abbrev pub Again : Type 0
Again = (bs : List ℕ) (s : Script) → Bytes bs → read bs ≡ script s → canon (canon s) ≡ canon s

abbrev pub WritesAgain : Type 0
WritesAgain = (words : ℕ) (bs : List ℕ) (room : ℕ) (out : List ℕ) → Bytes bs → canon_entry words bs room ≡ wrote out → canon_entry words out room ≡ wrote out

-- "wherever neither is refusal 10, the pass on the written file gives the same refusal, or the same runs and mark and a result that is written to the
-- same bytes": for every run limit, and whatever room either result has
abbrev pub Commutes : Type 0
Commutes = (bs : List ℕ) (s : Script) → Bytes bs → read bs ≡ script s → (runs words room room' : ℕ) → SameEnds (entry runs words bs room) (entry runs words (file (canon s)) room')

-- why the writer answers as it does: each refusal on its own condition, and no other
pub data Why (words : ℕ) (bs : List ℕ) (room : ℕ) : Writing → Type 0 where
  few_words : words < 16384 → Why words bs room (refused 1)
  not_read : (n : ℕ) → 16384 ≤ words → read bs ≡ bad n → 2 ≤ n → n ≤ 7 → Why words bs room (refused n)
  no_room : (s : Script) → 16384 ≤ words → read bs ≡ script s → room < length (file (canon s)) → Why words bs room (refused 16)
  has_room : (s : Script) → 16384 ≤ words → read bs ≡ script s → length (file (canon s)) ≤ room → Why words bs room (wrote (file (canon s)))

abbrev pub Answers : Type 0
Answers = (words : ℕ) (bs : List ℕ) (room : ℕ) → Why words bs room (canon_entry words bs room)

-- What calls of the C functions have in common that write the canonical files of scripts, or make the pass on such a file. Assumes nothing: these are
-- definitions.
use Rattle.std.specs.Prelude.{◌≡◌, ◌↔◌, List, ◌++◌, ℕ, leb, length, take, drop}
use Rattle.def_file.specs.Script.{Script}
use Rattle.def_file.specs.Read.{script, read}
use Rattle.def_pass.specs.Entry.{Entry}
use Rattle.def_canon.specs.Differ.{Differ, SameEnds}
use Rattle.def_canon.specs.Entry.{canon_entry}
use Rattle.laws_roundtrip.specs.Fits.{Bytes}
use Rattle.file_copy.specs.declared.Copied.{Copied}
use Rattle.file_copy.specs.Copy as copying
use Rattle.file_canon.specs.Canon as canons
use Rattle.file_canon.specs.Canon.{CanonIs}
use Rattle.pass_answers.specs.declared.Inlined.{Inlined}
use Rattle.pass_answers.specs.Entry.{numbers, left, InlineIs}
use Rattle.pass_answers.specs.Under.{InlineUnderIs}

-- of a call of the writer, with so many words, all but what it leaves in them
pub record CallIs (bs r r' : List ℕ) (words : ℕ) (c : Copied) : Type 0 where
  pub answer : c ≡ copying.numbers (canons.told (canon_entry words bs (length r)))
  pub result : r' ≡ canons.left r (canon_entry words bs (length r))

-- the bytes that were written: the first ones of the result buffer
abbrev pub written : Copied → List ℕ → List ℕ
written c r' = take c.length r'

-- what was written is written as it is, with what stood behind it in the second buffer
pub record Unchanged (out s s' : List ℕ) (c d : Copied) : Type 0 where
  pub answer : d ≡ c
  pub result : s' ≡ out ++ drop (length out) s

-- the call of the writer on the bytes bs succeeded, and out is what it wrote
pub record Wrote (bs out : List ℕ) : Type 0 where
  pub buffer : List ℕ
  pub buffer_after : List ℕ
  pub words : List ℕ
  pub words_after : List ℕ
  pub answer : Copied
  pub call : CanonIs bs buffer buffer_after words words_after answer
  pub accepted : answer.refused ≡ 0
  pub is : out ≡ written answer buffer_after

-- two files get equal bytes exactly when they differ only in text numbering, in unused texts, and by a one-to-one change of contexts
abbrev pub OneFileForOneScript : Type 0
OneFileForOneScript = (as' bs : List ℕ) (a b : Script) (out out' : List ℕ) → Bytes as' → Bytes bs → read as' ≡ script a → read bs ≡ script b → Wrote as' out → Wrote bs out' → (out ≡ out') ↔ Differ a b

-- writing an already written file changes nothing
abbrev pub WrittenOnce : Type 0
WrittenOnce = (bs out out' : List ℕ) → Bytes bs → Wrote bs out → Wrote out out' → out' ≡ out

-- two calls of the pass ended alike: with one refusal, unless one is 10, or with the same runs and mark and results of one canonical file
pub record SameCalls (x y : Inlined) (r r' s s' : List ℕ) : Type 0 where
  pub one : Entry
  pub two : Entry
  pub one_answer : x ≡ numbers one
  pub two-answer : y ≡ numbers two
  pub one_result : r' ≡ left r one
  pub two-result : s' ≡ left s two
  pub same : SameEnds one two

-- the pass on a written file ends as on the file that it was written from
abbrev pub PassOnWritten : Type 0
PassOnWritten = (bs out : List ℕ) → Bytes bs → Wrote bs out
    → (runs : ℕ) (r r' w w' : List ℕ) (x : Inlined) (s s' v v' : List ℕ) (y : Inlined) → leb 16384 (length w) ≡ leb 16384 (length v)
    → InlineIs bs r r' w w' runs x → InlineIs out s s' v v' runs y → SameCalls x y r r' s s'

-- and under one lent kind table
abbrev pub PassOnWrittenUnder : Type 0
PassOnWrittenUnder = (T bs out : List ℕ) → Bytes bs → Wrote bs out
    → (runs : ℕ) (r r' w w' : List ℕ) (x : Inlined) (s s' v v' : List ℕ) (y : Inlined) → leb 16384 (length w) ≡ leb 16384 (length v)
    → InlineUnderIs T bs r r' w w' runs x → InlineUnderIs T out s s' v v' runs y → SameCalls x y r r' s s'

-- What the C functions under a lent kind table answer, and what they leave in their buffers, by the definition. Assumes nothing: these are definitions.
use Rattle.std.specs.Prelude.{◌≡◌, ◌⊎◌, ◌≤◌, true, false, List, ℕ, length}
use Rattle.def_pass.specs.Script.{Root}
use Rattle.def_pass.specs.Entry as entries
use Rattle.def_pass.specs.Entry.{Entry, passed, enough}
use Rattle.def_under.specs.Entry.{pass_under, entry_under}
use Rattle.file_copy.specs.Copy.{WordsAre}
use Rattle.pass_roots.specs.Listing as lists
use Rattle.pass_roots.specs.Listing.{Listing, refused, listed, in_room}
use Rattle.pass_roots.specs.Nth.{nth}
use Rattle.pass_answers.specs.declared.Inlined.{Inlined}
use Rattle.pass_answers.specs.declared.Roots.{Roots}
use Rattle.pass_answers.specs.declared.RootBinding.{RootBinding}
use Rattle.pass_answers.specs.Entry.{numbers, left}
use Rattle.pass_answers.specs.Roots as roots
use Rattle.pass_answers.specs.Rows.{Row}
use Rattle.pass_answers.specs.Roots.{said, NthRoot, stopped, given, nth_numbers}

-- for all arguments, T the table; the words are kept by row 1, and after all else, 14 and 15 too, the first 16,384 are 0 and those past them kept
pub record InlineUnderIs (T bs r r' w w' : List ℕ) (runs : ℕ) (c : Inlined) : Type 0 where
  pub answer : c ≡ numbers (entry_under runs (length w) T bs (length r))
  pub result : r' ≡ left r (entry_under runs (length w) T bs (length r))
  pub words : WordsAre w w' (enough runs (length w))

-- a refusal, or what is said of the root bindings: rows 1, 14 and 15, then 2 to 9
module _ {Z : Type 0} (stop : ℕ → Z) (of : List Root → Z) where
  unfoldable pub over_under : ℕ → ℕ → List ℕ → List ℕ → Z
  over_under runs words T bs = elim (enough runs words) [ false ↦ stop 1 | true ↦ said stop of (pass_under runs T bs) ]

-- and row 10
abbrev pub listing_under : ℕ → ℕ → List ℕ → List ℕ → ℕ → Listing
listing_under runs words T bs room = over_under refused (in_room room) runs words T bs

pub record RootsUnderIs (T bs r r' w w' : List ℕ) (runs : ℕ) (c : Roots) : Type 0 where
  pub answer : c ≡ roots.numbers (listing_under runs (length w) T bs (length r))
  pub roots : r' ≡ lists.left r (listing_under runs (length w) T bs (length r))
  pub words : WordsAre w w' (enough runs (length w))

abbrev pub nth_under : ℕ → ℕ → List ℕ → List ℕ → ℕ → NthRoot
nth_under runs words T bs n = over_under stopped (λ rs. given (nth n rs)) runs words T bs

pub record RootUnderIs (T bs w w' : List ℕ) (runs n : ℕ) (c : RootBinding) : Type 0 where
  pub answer : c ≡ nth_numbers (nth_under runs (length w) T bs n)
  pub words : WordsAre w w' (enough runs (length w))

-- a refusal's number: those of Rows, 14 and 15
abbrev pub RowUnder : ℕ → Type 0
RowUnder n = Row n ⊎ ((14 ≤ n) × (n ≤ 15))

abbrev pub EntryRowUnder : Entry → Type 0
EntryRowUnder (entries.refused n) = RowUnder n
EntryRowUnder (passed n k c out rs) = Unit {0}

abbrev pub ListingRowUnder : Listing → Type 0
ListingRowUnder (refused n) = RowUnder n
ListingRowUnder (listed rs) = Unit {0}

-- row 10 speaks of a buffer, and this answer has none
abbrev pub NthRowUnder : NthRoot → Type 0
NthRowUnder (stopped n) = ((1 ≤ n) × (n ≤ 9)) ⊎ ((14 ≤ n) × (n ≤ 15))
NthRowUnder (given r) = Unit {0}

-- of the three C functions, for all arguments
abbrev pub RowsUnder : Type 0
RowsUnder = (runs words : ℕ) (T bs : List ℕ) (room n : ℕ) → EntryRowUnder (entry_under runs words T bs room) × ListingRowUnder (listing_under runs words T bs room) × NthRowUnder (nth_under runs words T bs n)

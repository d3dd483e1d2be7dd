-- The C functions under a lent kind table beside those without one. Assumes nothing: these are definitions.
use Rattle.std.specs.Prelude.{◌≡◌, List, ℕ}
use Rattle.file_kinds.specs.declared.TheConstants.{KINDS}
use Rattle.def_pass.specs.Entry.{entry}
use Rattle.def_under.specs.Entry.{entry_under}
use Rattle.pass_answers.specs.declared.Inlined.{Inlined}
use Rattle.pass_answers.specs.declared.Roots.{Roots}
use Rattle.pass_answers.specs.declared.RootBinding.{RootBinding}
use Rattle.pass_answers.specs.Entry.{InlineIs}
use Rattle.pass_answers.specs.Roots.{listing, nth_root, RootsIs, RootIs}
use Rattle.pass_answers.specs.Under.{listing_under, nth_under, InlineUnderIs, RootsUnderIs, RootUnderIs}

-- under the table T the file bs is answered as under none
abbrev pub Unchanged : List ℕ → List ℕ → Type 0
Unchanged T bs = (runs words room n : ℕ)
    → (entry_under runs words T bs room ≡ entry runs words bs room) × (listing_under runs words T bs room ≡ listing runs words bs room) × (nth_under runs words T bs n ≡ nth_root runs words bs n)

-- lent the constant table, every file is
abbrev pub Own : Type 0
Own = (bs : List ℕ) → Unchanged KINDS bs

-- and what a table does not refuse has the promise that it has without one, so that all that is said of a result holds of it
abbrev pub InlineToday : Type 0
InlineToday = (T bs r r' w w' : List ℕ) (runs : ℕ) (c : Inlined) → InlineUnderIs T bs r r' w w' runs c → c.refused ≡ 0 → InlineIs bs r r' w w' runs c

abbrev pub RootsToday : Type 0
RootsToday = (T bs r r' w w' : List ℕ) (runs : ℕ) (c : Roots) → RootsUnderIs T bs r r' w w' runs c → c.refused ≡ 0 → RootsIs bs r r' w w' runs c

abbrev pub RootToday : Type 0
RootToday = (T bs w w' : List ℕ) (runs n : ℕ) (c : RootBinding) → RootUnderIs T bs w w' runs n c → c.refused ≡ 0 → RootIs bs w w' runs n c

-- A refusal's number is one of document 01's table, so that 0 tells a result. Assumes nothing: these are definitions.
use Rattle.std.specs.Prelude.{◌≡◌, List, ℕ, ◌≤◌, length}
use Rattle.def_pass.specs.Entry.{Entry, refused, passed, entry}
use Rattle.pass_answers.specs.declared.Inlined.{Inlined}
use Rattle.pass_answers.specs.declared.Roots.{Roots}
use Rattle.pass_answers.specs.declared.RootBinding.{RootBinding}
use Rattle.pass_answers.specs.Entry.{InlineIs}
use Rattle.pass_roots.specs.Listing as lists
use Rattle.pass_answers.specs.Roots as roots

abbrev pub Row : ℕ → Type 0
Row n = (1 ≤ n) × (n ≤ 10)

abbrev pub EntryRow : Entry → Type 0
EntryRow (refused n) = Row n
EntryRow (passed n k c out rs) = Unit {0}

abbrev pub ListingRow : lists.Listing → Type 0
ListingRow (lists.refused n) = Row n
ListingRow (lists.listed rs) = Unit {0}

-- row 10 speaks of a buffer, and this answer has none
abbrev pub NthRow : roots.NthRoot → Type 0
NthRow (roots.stopped n) = (1 ≤ n) × (n ≤ 9)
NthRow (roots.given r) = Unit {0}

-- of the three C functions, for all arguments
abbrev pub Rows : Type 0
Rows = (runs words : ℕ) (bs : List ℕ) (room n : ℕ) → EntryRow (entry runs words bs room) × ListingRow (roots.listing runs words bs room) × NthRow (roots.nth_root runs words bs n)

-- a result, not a refusal
abbrev pub Result : Entry → Type 0
Result (refused n) = ⊥
Result (passed n k c out rs) = Unit {0}

abbrev pub Listed : lists.Listing → Type 0
Listed (lists.refused n) = ⊥
Listed (lists.listed rs) = Unit {0}

-- what a caller of a C function goes by
abbrev pub InlineZero : Type 0
InlineZero = (bs r r' w w' : List ℕ) (runs : ℕ) (c : Inlined) → InlineIs bs r r' w w' runs c → c.refused ≡ 0 → Result (entry runs (length w) bs (length r))

abbrev pub RootsZero : Type 0
RootsZero = (bs r r' w w' : List ℕ) (runs : ℕ) (c : Roots) → roots.RootsIs bs r r' w w' runs c → c.refused ≡ 0 → Listed (roots.listing runs (length w) bs (length r))

abbrev pub Given : roots.NthRoot → Type 0
Given (roots.stopped n) = ⊥
Given (roots.given r) = Unit {0}

abbrev pub RootZero : Type 0
RootZero = (bs w w' : List ℕ) (runs n : ℕ) (c : RootBinding) → roots.RootIs bs w w' runs n c → c.refused ≡ 0 → Given (roots.nth_root runs (length w) bs n)

-- Demand 3 under a table: "Paired scripts are meant under one table". Assumes nothing: these are definitions.
use Rattle.std.specs.Prelude.{◌≡◌, ◌↔◌, ◌≤◌, List, ℕ}
use Rattle.def_kinds.specs.Pairs.{allowed}
use Rattle.def_file.specs.Script.{Script}
use Rattle.def_file.specs.Read.{script, read}
use Rattle.def_pass.specs.Paired as paired
use Rattle.def_under.specs.Reading.{lent}
use Rattle.def_under.specs.Entry.{pass_under, entry_under}

-- two scripts that are read under the table T, and paired
pub record PairedUnder (T as' bs : List ℕ) (a b : Script) : Type 0 where
  pub one : lent T as' ≡ script a
  pub two : lent T bs ≡ script b
  pub pair : paired.Paired a b

-- for every pair and run limit
abbrev pub Demand3Under : Type 0
Demand3Under = (T as' bs : List ℕ) (a b : Script) → PairedUnder T as' bs a b → (n : ℕ)
    → paired.Alike a b (pass_under n T as') (pass_under n T bs) × paired.Kept a (pass_under n T as') × paired.Kept b (pass_under n T bs)

-- for every pair, run limit, number of working words and room for each result
abbrev pub Demand3EntryUnder : Type 0
Demand3EntryUnder = (T as' bs : List ℕ) (a b : Script) → PairedUnder T as' bs a b → (runs words room room' : ℕ)
    → paired.AlikeEntry a b (entry_under runs words T as' room) (entry_under runs words T bs room')

-- under each parent the table has one entry for the four kinds of literals, 22 to 25
abbrev pub LiteralsAlike : List ℕ → Type 0
LiteralsAlike T = (p k l : ℕ) → 22 ≤ k → k ≤ 25 → 22 ≤ l → l ≤ 25 → allowed T p k ≡ allowed T p l

-- then of two paired scripts the one is read under it exactly if the other is
abbrev pub ReadAlike : Type 0
ReadAlike = (T as' bs : List ℕ) (a b : Script) → LiteralsAlike T → read as' ≡ script a → read bs ≡ script b → paired.Paired a b
    → (lent T as' ≡ script a) ↔ (lent T bs ≡ script b)

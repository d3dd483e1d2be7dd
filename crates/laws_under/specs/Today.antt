-- The pass under a lent kind table beside the pass without one. Assumes nothing: these are definitions.
use Rattle.std.specs.Prelude.{◌≡◌, List, ℕ}
use Rattle.def_file.specs.Script.{Script}
use Rattle.def_file.specs.Read.{script}
use Rattle.def_pass.specs.Script.{pass_file}
use Rattle.def_pass.specs.Entry.{entry}
use Rattle.def_under.specs.Reading.{lent}
use Rattle.def_under.specs.Entry.{pass_under, entry_under}

-- under the table T the file bs is answered as under none, for every run limit, number of working words and room
pub record Unchanged (T bs : List ℕ) : Type 0 where
  pub pass : (n : ℕ) → pass_under n T bs ≡ pass_file n bs
  pub entry : (runs words room : ℕ) → entry_under runs words T bs room ≡ entry runs words bs room

-- so is every file that is read under it
abbrev pub OnceRead : Type 0
OnceRead = (T bs : List ℕ) (s : Script) → lent T bs ≡ script s → Unchanged T bs

-- The canonical form under a lent kind table. Assumes nothing: these are definitions.
use Rattle.std.specs.Prelude.{◌≡◌, List, ℕ}
use Rattle.def_file.specs.Read.{script, read}
use Rattle.def_file.specs.Script.{Script}
use Rattle.def_file.specs.Write.{file}
use Rattle.def_under.specs.Reading.{pairs_ok}
use Rattle.def_under.specs.Entry.{entry_under}
use Rattle.laws_roundtrip.specs.Fits.{Bytes}
use Rattle.def_canon.specs.Canon.{canon}
use Rattle.def_canon.specs.Differ.{SameEnds}

-- a table allows the pairs of a script exactly if it allows those of its canonical form
abbrev pub SamePairs : Type 0
SamePairs = (T : List ℕ) (s : Script) → pairs_ok T (canon s) ≡ pairs_ok T s

-- under one table the pass on the canonical file ends as on the file of the script: with the same refusal (14, 15, and 6 for a pair that the table forbids
-- too), or with the same runs and mark and a result that has the same canonical file
abbrev pub CommutesUnder : Type 0
CommutesUnder = (T bs : List ℕ) (s : Script) → Bytes bs → read bs ≡ script s → (runs words room room' : ℕ) → SameEnds (entry_under runs words T bs room) (entry_under runs words T (file (canon s)) room')

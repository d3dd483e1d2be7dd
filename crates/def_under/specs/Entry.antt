-- The pass over a file under a lent kind table, and the whole entry: those of def_pass, of what is read under the table.
-- Assumes nothing: these are definitions.
use Rattle.std.specs.Prelude.{true, false, List, ℕ}
use Rattle.def_file.specs.Write.{file}
use Rattle.def_pass.specs.Script.{Answer, pass, pass_read}
use Rattle.def_pass.specs.Entry.{Entry, refused, enough, entry_read}
use Rattle.def_under.specs.Reading.{lent}

-- rows 14 and 15, and 2 to 9
unfoldable pub pass_under : ℕ → List ℕ → List ℕ → Answer
unfolding lent pass
pass_under n T bs = pass_read n (lent T bs)

unfoldable pub entry_under : ℕ → ℕ → List ℕ → List ℕ → ℕ → Entry
unfolding lent pass file
entry_under runs words T bytes room = elim (enough runs words) [ false ↦ refused 1 | true ↦ entry_read runs room (lent T bytes) ]

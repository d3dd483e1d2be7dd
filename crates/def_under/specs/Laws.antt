-- What holds of reading under a kind table, for every table and every file. Assumes nothing: these are definitions.
use Rattle.std.specs.Prelude.{◌≡◌, ◌↔◌, true, List, ℕ, ◌+◌, ◌*◌, drop, eqb}
use Rattle.def_tree.specs.Base.{pick}
use Rattle.def_file.specs.Script.{Script}
use Rattle.def_file.specs.Read.{Read, bad, script, u32, nodes_from, ends_from, texts_from, read}
use Rattle.def_under.specs.Reading.{pairs_ok, read_under}

-- "A script is then read exactly if it is read under the constant table and the lent one allows every pair"
abbrev pub Exactly : Type 0
Exactly = (T bs : List ℕ) (s : Script) → (read_under T bs ≡ script s) ↔ ((read bs ≡ script s) × (pairs_ok T s ≡ true))

-- the nodes and texts that the header of a file counts
abbrev pub script_in : List ℕ → Script
script_in bs = record { nodes = nodes_from (u32 bs 8) (drop 32 bs); texts = texts_from 0 (ends_from (u32 bs 16) (drop (32 + 16 * u32 bs 8) bs)) (drop (32 + 16 * u32 bs 8 + 4 * u32 bs 16) bs) }

-- what a forbidden pair makes of an answer: 2 to 5 stay, and all behind them is 6
abbrev pub six : Read → Read
six (bad m) = bad (pick (eqb m 7) 6 m)
six (script s) = bad 6

-- "a forbidden pair gives 6", and nothing else is new
abbrev pub Refusals : Type 0
Refusals = (T bs : List ℕ) → read_under T bs ≡ pick (pairs_ok T (script_in bs)) (read bs) (six (read bs))

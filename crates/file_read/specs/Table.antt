-- Rows 14 and 15: a table of kinds that a caller lends. Assumes nothing: these are definitions.
use Rattle.std.specs.Prelude.{◌≡◌, true, false, List, ℕ, Result, Ok, Err}
use Rattle.def_kinds.specs.Lent.{is_table, within}
use Rattle.file_kinds.specs.declared.TheConstants.{KINDS}
use Rattle.def_file.specs.Read.{read}
use Rattle.def_under.specs.Reading.{constant, lent}
use Rattle.refusal.specs.declared.Refusal.{Refusal}
use Rattle.refusal.specs.declared.Refusal.TheVariants as Row

-- no table, or one that allows a pair that the constant one forbids
abbrev pub table_row : List ℕ → Result Unit Refusal
table_row T = elim (is_table T) [ false ↦ Err Row.Table | true ↦ elim (within T constant) [ false ↦ Err Row.Pairs | true ↦ Ok tt ] ]

-- lent the constant table, reading is reading
abbrev pub OwnRead : Type 0
OwnRead = (bs : List ℕ) → lent KINDS bs ≡ read bs

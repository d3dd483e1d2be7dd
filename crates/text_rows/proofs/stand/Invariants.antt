-- None of the rows so far stands at the place. Assumes nothing.
use Rattle.std.proofs.Common.{◌≡◌, ℕ, ◌<◌, ◌≤◌, false, get_or}
use Rattle.text_table.specs.Rows.{rows, no_row}
use Rattle.text_table.specs.Put.{stands}
use Rattle.text_rows.specs.Rows.{spot_of}
use Rattle.text_rows.proofs.stand.Given as goal

abbrev pub invariant-loop-i : goal.invariant-loop-i
invariant-loop-i l = (j : ℕ) → l.from ≤ j → j < l.i → stands l.kind l.form l.n (spot_of l.«at») (get_or rows j no_row) ≡ false

-- None of the rows so far is one for the node. Assumes nothing.
use Rattle.std.proofs.Common.{◌≡◌, ℕ, ◌<◌, ◌≤◌, false, get_or}
use Rattle.def_text.specs.Grammar.{is_for}
use Rattle.text_table.specs.Rows.{rows, no_row}
use Rattle.text_rows.proofs.any.Given as goal

abbrev pub invariant-loop-i : goal.invariant-loop-i
invariant-loop-i l = (j : ℕ) → l.from ≤ j → j < l.i → is_for l.kind l.form l.n (get_or rows j no_row).rule ≡ false

-- `file_read::table::is_table` meets its contract. The invariant: what is known, and the entries that are left. Assumes nothing.
use Rattle.std.proofs.Common.{◌≡◌, ◌&&◌, leb, drop}
use Rattle.std.specs.List.{list_all}
use Rattle.file_read.proofs.table.is_table.Given as goal

abbrev pub invariant-loop-entry : goal.invariant-loop-entry
invariant-loop-entry l = (l.known && list_all (λ b. leb b 1) (drop l.entry-index l.table)) ≡ list_all (λ b. leb b 1) l.table

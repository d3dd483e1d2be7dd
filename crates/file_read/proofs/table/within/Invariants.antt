-- `file_read::table::within` meets its contract. The invariant: what is known, and the pairs that are left. Assumes nothing.
use Rattle.std.proofs.Common.{◌≡◌, ◌&&◌}
use Rattle.file_kinds.specs.declared.TheConstants.{KINDS}
use Rattle.file_read.proofs.Tables.{no_greater_from}
use Rattle.file_read.proofs.table.within.Given as goal

abbrev pub invariant-loop-k : goal.invariant-loop-k
invariant-loop-k l = (l.allowed && no_greater_from l.table KINDS l.k) ≡ no_greater_from l.table KINDS 0

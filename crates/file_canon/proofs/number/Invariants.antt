-- The numbers of the first k nodes. Assumes nothing.
use Rattle.std.proofs.Common.{take, drop}
use Rattle.def_file.specs.Read.{nodes_from}
use Rattle.file_read.specs.Load.{Kept}
use Rattle.file_canon.specs.Uses.{Used}
use Rattle.file_canon.proofs.number.Given as goal

abbrev pub invariant-loop-k : goal.invariant-loop-k
invariant-loop-k l = Used l.words (take l.k (nodes_from l.n (drop 32 l.file))) × Kept l.fn.words l.words

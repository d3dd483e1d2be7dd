-- `file_read::load::load` meets its contract. The invariant: the first k nodes are loaded. Assumes nothing.
use Rattle.file_read.specs.Load.{Loaded, Kept}
use Rattle.file_read.proofs.load.load.Given as goal

abbrev pub invariant-loop-k : goal.invariant-loop-k
invariant-loop-k l = Loaded l.file l.words l.h.nodes l.h.texts l.k × Kept l.initial.words l.words

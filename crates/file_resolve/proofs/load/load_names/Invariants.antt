-- The first nodes are loaded. Assumes nothing.
use Rattle.file_read.specs.Load.{Kept}
use Rattle.file_resolve.specs.Load.{Loaded}
use Rattle.file_resolve.proofs.load.load_names.Given as goal

abbrev pub invariant-loop-k : goal.invariant-loop-k
invariant-loop-k l = Loaded l.file l.words l.header.nodes l.header.texts l.k × Kept l.initial.words l.words

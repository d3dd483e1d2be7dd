-- Node by node. Assumes nothing.
use Rattle.std.proofs.Common.{◌≡◌}
use Rattle.std.proofs.lemmas.List.Edits.{sets}
use Rattle.def_file.specs.Write.{node_bytes}
use Rattle.words.specs.Tab.{tab}
use Rattle.words.specs.Layout.{node_of}
use Rattle.file_write.specs.Back.{back_in}
use Rattle.file_write.proofs.nodes.Source.put_nodes.Given as goal

abbrev pub invariant-loop-k : goal.invariant-loop-k
invariant-loop-k l = l.out ≡ sets l.initial.out 0 (node_bytes (tab l.k (λ j. back_in l.self.file.now l.self.words.now (node_of l.self.words.now j))))

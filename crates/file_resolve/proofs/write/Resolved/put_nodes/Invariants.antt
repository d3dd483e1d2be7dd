-- The first k nodes. Assumes nothing.
use Rattle.std.proofs.Common.{◌≡◌, take}
use Rattle.std.proofs.lemmas.List.Edits.{sets}
use Rattle.def_file.specs.Write.{node_bytes}
use Rattle.def_resolve.specs.Resolve.{resolved}
use Rattle.file_resolve.specs.Check.{read_of}
use Rattle.file_resolve.proofs.write.Resolved.put_nodes.Given as goal

abbrev pub invariant-loop-k : goal.invariant-loop-k
invariant-loop-k l = l.buffer ≡ sets l.initial.buffer 32 (node_bytes (take l.k (resolved (read_of l.self.file.now l.self.header)).nodes))

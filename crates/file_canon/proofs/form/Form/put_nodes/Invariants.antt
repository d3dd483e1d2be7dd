-- The first k nodes. Assumes nothing.
use Rattle.std.proofs.Common.{◌≡◌, take}
use Rattle.std.proofs.lemmas.List.Edits.{sets}
use Rattle.def_file.specs.Write.{node_bytes}
use Rattle.file_canon.specs.Form.{form_of}
use Rattle.file_canon.proofs.form.Form.put_nodes.Given as goal

abbrev pub invariant-loop-k : goal.invariant-loop-k
invariant-loop-k l = l.res ≡ sets l.initial.res 32 (node_bytes (take l.k (form_of l.self.file.now l.self.header).nodes))

-- `file_read::idents::place_of` meets its contract. The invariant: none of the first j has the identifier. Assumes nothing.
use Rattle.std.proofs.Common.{◌≡◌, ◌+◌, drop}
use Rattle.def_file.specs.Script.{place_of}
use Rattle.file_read.specs.Idents.{ids_of}
use Rattle.file_read.proofs.idents.place_of.Given as goal

abbrev pub invariant-loop-j : goal.invariant-loop-j
invariant-loop-j l = place_of l.x (ids_of l.file l.words) ≡ l.j + place_of l.x (drop l.j (ids_of l.file l.words))

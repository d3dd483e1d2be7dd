-- `file_read::texts::Texts::rising` meets its contract. The invariant: the ends passed never fell, and the last of them is `at`. Assumes nothing.
use mathlib.Core.Path.{◌≡◌}
use lib.ListN.{drop}
use Rattle.def_file.specs.Read.{ends_from, rising}
use Rattle.file_read.proofs.texts.Texts.rising.Given as goal

abbrev pub invariant-loop-k : goal.invariant-loop-k
invariant-loop-k l = rising 0 (ends_from l.self.count (drop l.self.ends l.file)) l.b ≡ rising l.at (drop l.k (ends_from l.self.count (drop l.self.ends l.file))) l.b

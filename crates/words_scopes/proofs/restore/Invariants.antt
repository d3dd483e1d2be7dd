-- From the last binding down: the invariant is that the index is that of the bindings before. Assumes nothing.
use Rattle.std.proofs.Common.{◌≤◌}
use Rattle.words_scopes.specs.Index.{Restored}
use Rattle.words_scopes.proofs.restore.Given as goal

abbrev pub invariant-loop-j : goal.invariant-loop-j
invariant-loop-j l = (l.a ≤ l.j) × Restored l.initial.w l.w l.j

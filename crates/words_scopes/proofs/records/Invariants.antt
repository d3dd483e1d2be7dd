-- The records of a window, one after the other; `o` is the sum of the lengths passed. Assumes nothing.
use Rattle.std.proofs.Common.{◌≡◌, ℕ, ◌+◌, ◌<◌, length, get_or}
use Rattle.words_scopes.specs.State.{off, record_at, no_record}
use Rattle.words_scopes.proofs.records.Given as goal

abbrev pub invariant-loop-i : goal.invariant-loop-i
invariant-loop-i l = record {
  size : length l.bs ≡ 8;
  begins : l.o ≡ off l.w (l.k + l.i);
  done : (j : ℕ) → j < l.i → get_or l.bs j no_record ≡ record_at l.w (l.k + j);
}

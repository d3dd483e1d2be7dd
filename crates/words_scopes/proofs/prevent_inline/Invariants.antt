-- The pass through all bindings; a window of records is made where a mark is missing, and `o` is the sum of the lengths passed. Assumes nothing.
-- the window's loop goes on from the words in which the mark is missing
use Rattle.std.proofs.Common.{◌≡◌, ◌+◌, ◌-◌, ◌*◌, ◌≤◌, get_or}
use Rattle.words_scopes.specs.State.{off}
use Rattle.words_scopes.proofs.Words as laws
use Rattle.words_scopes.proofs.prevent_inline.Given as goal

abbrev pub invariant-loop-b : goal.invariant-loop-b
invariant-loop-b l = record {
  at : l.j ≡ l.initial.j + l.b-index;
  swept : laws.Swept l.initial.w l.w l.x l.j;
  begins : l.o ≡ off l.initial.w l.j;
  ahead : laws.Ahead l.initial.w l.x l.j l.b-index l.b-items;
}

abbrev pub invariant-loop-j : goal.invariant-loop-j
invariant-loop-j l = record {
  within : l.j ≤ l.n;
  many : l.n ≡ get_or l.initial.w 1 0;
  swept : laws.Swept l.initial.w l.w l.x l.j;
  begins : l.o ≡ off l.initial.w l.j;
  here : l.p ≡ 4112 + l.j * 10;
}

abbrev pub decreases-loop-j : goal.decreases-loop-j
decreases-loop-j l = l.n - l.j

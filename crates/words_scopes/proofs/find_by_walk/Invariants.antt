-- Scope by scope, innermost first: in a scope the oldest binding of the name. Assumes nothing.
use Rattle.std.proofs.Common.{◌≡◌, ◌≤◌, get_or}
use Rattle.words_scopes.specs.State.{Fits, heads_at, heads, binds, place}
use Rattle.words_scopes.proofs.Words.{up_to}
use Rattle.words_scopes.proofs.find_by_walk.Given as goal

abbrev pub invariant-loop-k : goal.invariant-loop-k
invariant-loop-k l = record {
  within : l.e ≤ get_or l.w 1 0;
  fits : Fits (heads_at l.w l.k) l.e;
  same : place l.x (heads l.w) (binds l.w) ≡ place l.x (heads_at l.w l.k) (up_to l.w l.e);
}

-- Steps one after the other, with an exit where one refuses. Assumes nothing.
use Rattle.std.proofs.Common.{◌≡◌, Result, IsErrAnd, List, ℕ}
use Rattle.refusal.specs.declared.Refusal.{Refusal}
use Rattle.refusal.specs.Number.{number}
use Rattle.refusal.proofs.Rows.{exit}
use Rattle.def_tree.specs.Combine.{Res, stop, and_then}
use Rattle.def_pass.specs.Walk.{St, M}
use Rattle.words_state.specs.State.{rest}
pub use Rattle.scope.proofs.Moves.{rest-stack, mark-moves, grown-moves, moves-self, moves-then, moves-stop, moves-by, moves-count}
use Rattle.walk_declarator.specs.Steps.{done_of, Moves}

-- an exit by `?`: what the first step refused, the two refuse
pub moves-exit : {A B : Type 0} {w u : List ℕ} (e : Refusal) {m : Res St A} {k : Res St B} (f : A → M B) (r : Result B Refusal) → IsErrAnd r (λ y. y ≡ e) → k ≡ and_then m f → Moves w u m (stop (number e)) → Moves w u k (done_of r (rest u))
moves-exit {w = w} {u} e {k = k} f r h q p = exit (λ r. Moves w u k (done_of r (rest u))) r h (moves-by q (moves-stop f p))

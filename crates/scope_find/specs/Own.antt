-- The innermost scope's own binding of an identifier. Assumes nothing: these are definitions.
use Rattle.std.specs.Prelude.{◌≡◌, List, false, ℕ, suc, ◌<◌, Option, Some, None}
use Rattle.std.proofs.Math.Option.{some}
use Rattle.def_pass.specs.Scope.{find_binding_from_current, is_some}
use Rattle.words_scopes.specs.State.{stack, heads, binds, bind_at, place}
use Rattle.words.specs.Layout.{binding_count, id_word}

-- binding k is the innermost scope's own of x
pub record OwnAt (w : List ℕ) (x k : ℕ) : Type 0 where
  pub below : k < binding_count w
  pub place : place x (heads w) (binds w) ≡ suc k
  pub named : id_word w k ≡ x
  pub found : find_binding_from_current x (stack w) ≡ some (bind_at w k)

-- by its place among all bindings, if there is one
abbrev pub Own : List ℕ → ℕ → Option ℕ → Type 0
Own w x None = is_some (find_binding_from_current x (stack w)) ≡ false
Own w x (Some k) = OwnAt w x k

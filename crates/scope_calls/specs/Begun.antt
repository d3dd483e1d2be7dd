-- Where a sequence begins. Assumes nothing: these are definitions.
use Rattle.std.specs.Prelude.{◌≡◌, ℕ, ◌<◌, ◌≤◌, List, length}
use Rattle.def_tree.specs.Tree.{Core}
use Rattle.words.specs.Layout.{tree, binding_count, scope_count, constant_count, index_word}

-- no scope yet, an empty index, and the nodes xs
pub record Begun (w : List ℕ) (xs : List Core) : Type 0 where
  pub long : 16384 ≤ length w
  pub bindings : binding_count w ≡ 0
  pub scopes : scope_count w ≡ 0
  pub constants : constant_count w ≡ 0
  pub index : (x : ℕ) → x < 256 → index_word w x ≡ 0
  pub is : tree w ≡ xs

-- What the steps of the tables beside the bindings do, word by word. Assumes nothing: these are definitions.
use Rattle.std.specs.Prelude.{◌≡◌, ℕ, ◌+◌, ◌<◌, ◌≤◌, ◌⊎◌, List, length, ◌≢◌, slice_index}
use Rattle.words.specs.Layout.{index_base, shadowed_base, index_word, shadowed_word}
use Rattle.words.specs.Tab.{tab}
use Rattle.words_scopes.specs.State.{bind_at, heads, place}

-- binding n, of identifier x, is entered into the tables, where the current scope begins at a; all else is kept
pub record Entered (w w' : List ℕ) (n x a : ℕ) : Type 0 where
  pub size : length w' ≡ length w
  pub shadow : shadowed_word w' n ≡ index_word w x
  pub first : index_word w x ≤ a → index_word w' x ≡ n + 1
  pub again : a < index_word w x → index_word w' x ≡ index_word w x
  pub other : (j : ℕ) → (j ≢ shadowed_base + n) → (j ≢ index_base + x) → slice_index w' j ≡ slice_index w j

-- the index is that of the first a bindings; all else is kept
pub record Restored (w w' : List ℕ) (a : ℕ) : Type 0 where
  pub size : length w' ≡ length w
  pub index : (x : ℕ) → x < 256 → index_word w' x ≡ place x (heads w) (tab a (λ j. bind_at w j))
  pub other : (j : ℕ) → (j < index_base) ⊎ (shadowed_base ≤ j) → slice_index w' j ≡ slice_index w j

-- Words in which only barriers and unresolved uses differ. Assumes nothing: these are definitions.
use Rattle.std.specs.Prelude.{◌≡◌, List, ◌||◌, ℕ, ◌<◌, ◌≤◌, length, get_or, eqb}
use Rattle.words.specs.Layout.{Agree, beyond, scopes_base, unresolved_base, index_base, scope_count, barrier_place, first_barrier_place}
use Rattle.scope_find.specs.Look.{scope_at}

-- all but the barriers and the unresolved uses is kept
pub record Touched (w w' : List ℕ) : Type 0 where
  pub size : length w' ≡ length w
  pub low : (j : ℕ) → j < scopes_base → ((i : ℕ) → i < 256 → j ≡ barrier_place i → ⊥) → get_or w' j 0 ≡ get_or w j 0
  pub heads : (j : ℕ) → scopes_base ≤ j → j < unresolved_base → ((i : ℕ) → i < 32 → j ≡ first_barrier_place i → ⊥) → get_or w' j 0 ≡ get_or w j 0
  pub high : Agree index_base 16384 w w'
  pub rest : beyond w' ≡ beyond w

-- a barrier stands behind the last binding of scope k, and all else is as it was
pub record BarStored (w w' : List ℕ) (k : ℕ) : Type 0 where
  pub touched : Touched w w'
  pub here : (m : ℕ) → (scope_at w' k).inline_barriers m ≡ (eqb (length (scope_at w k).bindings) m || (scope_at w k).inline_barriers m)
  pub other : (j : ℕ) → j < scope_count w → (j ≡ k → ⊥) → (m : ℕ) → (scope_at w' j).inline_barriers m ≡ (scope_at w j).inline_barriers m
  pub unresolved : (j : ℕ) → j < scope_count w → (m : ℕ) → (scope_at w' j).unresolved_usages m ≡ (scope_at w j).unresolved_usages m

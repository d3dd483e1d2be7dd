-- What the functions on constants answer. Assumes nothing: these are definitions.
use Rattle.std.specs.Prelude.{◌≡◌, List, [], ◌∷◌, ◌++◌, Bool, ℕ, ◌+◌, ◌≤◌, ◌<◌, set, Option, Some, None}
use Rattle.std.proofs.Math.Option as math
use Rattle.def_tree.specs.Tree.{Tree}
use Rattle.def_pass.specs.Scope.{add_const, find_constant, untargeted, Free}
use Rattle.words.specs.Layout.{run, constant_values_base, constant_count, constant_id_word}
use Rattle.words.specs.declared.Run.{Run}
use Rattle.words_scopes.specs.State.{stack, split, heads, flags, binds, consts, value_of, targeted, Whole}
use Rattle.scope_values.specs.Steps.{Offered, run_value}

-- the value of the innermost constant of x that has one: a run of the constants' store; an identifier is not targeted
abbrev pub Found : List ℕ → ℕ → Option Run → Type 0
Found w x None = find_constant x (stack w) ≡ math.none
Found w x (Some r) = (find_constant x (stack w) ≡ value_of (run w constant_values_base r.at r.len)) × (0 < r.len) × (r.at + r.len ≤ 512) × Whole (run w constant_values_base r.at r.len) × Free (targeted w) (value_of (run w constant_values_base r.at r.len))

-- the constant of x in the innermost scope, by its place among all
abbrev pub Own : List ℕ → ℕ → Option ℕ → Type 0
Own w x None = (tg : ℕ → Bool) (v : math.Option Tree) → add_const tg x v (stack w) ≡ split (heads w) (flags w) (binds w) (consts w ++ ((x, untargeted tg v) ∷ []))
Own w x (Some k) = (k < constant_count w) × (constant_id_word w k ≡ x) × ((tg : ℕ → Bool) (v : math.Option Tree) → add_const tg x v (stack w) ≡ split (heads w) (flags w) (binds w) (set (consts w) k (x, untargeted tg v)))

-- what is left of a run of the tree: nothing if it is a targeted identifier, else all of it
pub record Left (w : List ℕ) (r r' : Run) : Type 0 where
  pub is : run_value w r' ≡ untargeted (targeted w) (run_value w r)
  pub offered : Offered w r'

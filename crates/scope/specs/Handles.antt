-- What a caller of scope.rs holds: a binding by its number, a tree by its first node. Assumes nothing: these are definitions.
use Rattle.std.specs.Prelude.{◌≡◌, Option as Answer, Some, None, IfSome, Result, Ok, List, [], ◌∷◌, ◌++◌, Bool, false, ℕ, zero, suc, ◌+◌, ◌≤◌, ◌<◌, ltb, length}
use Rattle.std.proofs.Math.Option.{Option, none, some}
use Rattle.std.proofs.Math.ListN.{get_elem?}
use Rattle.def_tree.specs.Base.{pick}
use Rattle.def_tree.specs.Tree.{Tree, node, nil, Core, count}
use Rattle.def_pass.specs.Scope.{VarInfo, Stack}
use Rattle.words.specs.Layout.{run, constant_values_base, binding_count}
use Rattle.words.specs.declared.Value.{Value}
use Rattle.words_scopes.specs.State.{Whole, bind_at}
use Rattle.words_nodes.specs.Nodes.{tree_from, value_from, Swapped}
use Rattle.refusal.specs.declared.Refusal.{Refusal}

-- all bindings, the root's first, in each scope the oldest first
abbrev pub bindings_of : Stack → List VarInfo
bindings_of [] = []
bindings_of (s ∷ st) = bindings_of st ++ s.bindings

-- the binding of a number: 1 + its place among them; 0 and a number past the last are no binding's
abbrev pub numbered : Stack → ℕ → Option VarInfo
numbered st zero = none
numbered st (suc k) = get_elem? (bindings_of st) k

-- it is binding k of the words, or there is none
abbrev pub IsBinding : List ℕ → Option VarInfo → Answer ℕ → Type 0
IsBinding w o None = o ≡ none
IsBinding w o (Some k) = (o ≡ some (bind_at w k)) × (k < binding_count w)

-- a test of it
abbrev pub of_binding : (VarInfo → Bool) → Option VarInfo → Bool
of_binding f none = false
of_binding f (some b) = f b

-- the tree that begins at a node, none past the last
abbrev pub tree_o : List Core → ℕ → Option Tree
tree_o xs i = pick (ltb i (length xs)) (some (tree_from xs i)) none

-- the store behind the others: that of the constants' values, by its first word
abbrev pub of_constants : ℕ
of_constants = constant_values_base

-- m nodes from `at` on of a store are the nodes of one tree
pub record Held (w : List ℕ) (base at m : ℕ) : Type 0 where
  pub some : 0 < m
  pub inside : at + m ≤ 512
  pub whole : Whole (run w base at m)

-- a recorded value, if there is one, is the nodes of one tree; which tree
abbrev pub Holds : List ℕ → Answer Value → Type 0
Holds w r = IfSome r (λ s. (s.base ≤ of_constants) × Held w s.base s.run.at s.run.len)

abbrev pub held_value : List ℕ → Answer Value → Option Tree
held_value w None = none
held_value w (Some s) = some (value_from w s.base s.run.at s.run.len)

-- a value, if there is one, is recorded there
abbrev pub Kept : List ℕ → Option Tree → Answer Value → Type 0
Kept w v r = (v ≡ held_value w r) × Holds w r

-- a binding of the current scope with its index; 1 + the index, 0 for none
abbrev pub with_index : ℕ → Option VarInfo → Option (ℕ × VarInfo)
with_index j none = none
with_index j (some b) = some (j, b)

abbrev pub indexed : Stack → ℕ → Option (ℕ × VarInfo)
indexed [] r = none
indexed (s ∷ st) zero = none
indexed (s ∷ st) (suc j) = with_index j (get_elem? s.bindings j)

-- how many nodes a value has
abbrev pub counted_o : Option Tree → Option ℕ
counted_o none = none
counted_o (some t) = some (count t)

-- the tree of a value that there is
abbrev pub value_tree : Option Tree → Tree
value_tree none = node 0 0 0 nil
value_tree (some t) = t

-- a value in the place of the tree at a node, or a row refuses; nothing where there is no node, or no value
abbrev pub Puts : Result Unit Refusal → List ℕ → List ℕ → ℕ → ℕ → Option Tree → Option Tree → Type 0
Puts r w u p i none v = (r ≡ Ok tt) × (u ≡ w)
Puts r w u p i (some t) none = (r ≡ Ok tt) × (u ≡ w)
Puts r w u p i (some t) (some e) = Swapped r w u p i e

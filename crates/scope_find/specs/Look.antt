-- What the look-ups answer, in terms of the words and of the stack that they stand for. Assumes nothing: these are definitions.
use Rattle.std.specs.Prelude.{Option as Answer, Some, None, List, [], ◌∷◌, map, ◌≡◌, Bool, true, false, ◌||◌, ℕ, zero, suc, ◌+◌, ◌-◌, ◌≤◌, ◌<◌, length, get_or, drop, ltb}
use Rattle.std.proofs.Math.Option.{Option, none, some}
use Rattle.def_file.specs.declared.kind.Kind.{Kind}
use Rattle.def_file.specs.Named.{IsKindOf}
use Rattle.def_tree.specs.Base.{pick}
use Rattle.def_tree.specs.Tree.{Tree, kind, plant, first_t}
use Rattle.def_pass.specs.Scope.{VarInfo, Scope, Stack, is_fn, find_in, idx_val, is_hoisted_prevented, prevent_param}
use Rattle.words.specs.Tab.{tab}
use Rattle.words.specs.Layout.{tree, node_count, binding_count, scope_count, constant_count, scope_place, barrier_word, first_binding_word, first_constant_word}
use Rattle.words_scopes.specs.State.{Good, bind_at, const_at, Head, head_at, heads_at, scope_of, split, index_in, place}

-- the words stand for a state, and it has node i
abbrev pub HasNode : List ℕ → ℕ → Type 0
HasNode w i = Good w × (i < node_count w)

-- where the bindings and the constants of scope k begin; behind the last scope, where they end
abbrev pub start : List ℕ → (k field count : ℕ) → ℕ
start w k field count = pick (ltb k (scope_count w)) (get_or w (scope_place k + field) 0) (get_or w count 0)

unfoldable pub first : List ℕ → ℕ → ℕ
first w k = pick (ltb k (scope_count w)) (first_binding_word w k) (binding_count w)

unfoldable pub cfirst : List ℕ → ℕ → ℕ
cfirst w k = pick (ltb k (scope_count w)) (first_constant_word w k) (constant_count w)

-- scope k, counted from the root; and the scopes before it, the innermost first
unfoldable pub scope_at : List ℕ → ℕ → Scope
unfolding first cfirst
scope_at w k =
    scope_of (head_at w k) (drop (first_binding_word w k) (tab (first w (suc k)) (λ j. barrier_word w j)))
    (drop (first_binding_word w k) (tab (first w (suc k)) (λ j. bind_at w j))) (drop (first_constant_word w k) (tab (cfirst w (suc k)) (λ j. const_at w j)))

unfoldable pub below : List ℕ → ℕ → Stack
unfolding first cfirst
below w k = split (heads_at w k) (tab (first w k) (λ j. barrier_word w j)) (tab (first w k) (λ j. bind_at w j)) (tab (cfirst w k) (λ j. const_at w j))

-- the binding at a place, 1 + its number; at 0 there is none
abbrev pub at_place : List ℕ → ℕ → Option VarInfo
at_place w zero = none
at_place w (suc k) = some (bind_at w k)

-- 1 + the number of the innermost binding of x in the first k scopes, 0 if there is none
unfoldable pub place_below : List ℕ → ℕ → ℕ → ℕ
unfolding first
place_below w x k = place x (heads_at w k) (tab (first w k) (λ j. bind_at w j))

-- x is looked for in scope k
pub record FoundIn (w : List ℕ) (k x r : ℕ) : Type 0 where
  pub is : find_in x (scope_at w k).bindings ≡ at_place w r
  pub index : 0 < r → r ≡ suc (first w k + index_in x (scope_at w k).bindings)
  pub low : r ≤ binding_count w

-- idx_val in the current scope; a place in the current scope, 1 + its number there
abbrev pub idx_here : ℕ → Stack → Option (ℕ × VarInfo)
idx_here x [] = none
idx_here x (s ∷ st) = idx_val 0 x s.bindings

abbrev pub idx_at : List ℕ → ℕ → Option (ℕ × VarInfo)
idx_at w zero = none
idx_at w (suc j) = some (j, bind_at w (first w (scope_count w - 1) + j))

-- read_cnt
abbrev pub reads_o : Option VarInfo → Option ℕ
reads_o none = none
reads_o (some b) = some b.read_cnt

-- the kind of a value, none where there is no value
abbrev pub IsKindOfValue : Option Tree → Answer Kind → Type 0
IsKindOfValue none None = Unit
IsKindOfValue none (Some k) = ⊥
IsKindOfValue (some t) None = ⊥
IsKindOfValue (some t) (Some k) = IsKindOf (kind t) k

-- the tree whose first node is node i
unfoldable pub node_tree : List ℕ → ℕ → Tree
unfolding tree
node_tree w i = first_t (plant (drop i (tree w)))

-- the scopes that should_prevent_inline_because_of_scope asks behind the current one
abbrev pub held : ℕ → Stack → Bool
held x [] = false
held x (s ∷ st) = s.unresolved_usages x || (is_hoisted_prevented (find_in x s.bindings) || held x st)

-- the barriers of the current scope
abbrev pub bars_here : Stack → ℕ → Bool
bars_here [] j = false
bars_here (s ∷ st) j = s.inline_barriers j

-- where the bindings of the nearest function begin, outwards
abbrev pub fn_start : List Head → ℕ
fn_start [] = 0
fn_start (h ∷ hs) = elim (is_fn h.kind) [ true ↦ h.start | false ↦ fn_start hs ]

-- the parameters prevented, from place n on
abbrev pub params_from : ℕ → List VarInfo → List VarInfo
params_from zero bs = map prevent_param bs
params_from (suc n) [] = []
params_from (suc n) (b ∷ bs) = b ∷ params_from n bs

-- how many bindings the current scope has
abbrev pub bound_here : Stack → ℕ
bound_here [] = 0
bound_here (s ∷ st) = length s.bindings

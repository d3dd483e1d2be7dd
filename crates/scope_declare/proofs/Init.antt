-- What `declare` looks up, and that it is `declare_with` of that. Assumes nothing.
use mathlib.Core.Path.{◌≡◌, refl, sym, ap, ◌∙◌, subst}
use mathlib.Core.List.{List, [], ◌∷◌}
use mathlib.Core.Bool.{Bool, true, false, ◌||◌, ◌&&◌, not}
use mathlib.Core.Logic.{◌⊎◌, inl, inr}
use mathlib.Core.Option.{Option, none, some}
use Prim.Native.Nat.{ℕ, zero, suc, ◌+◌, ◌-◌, ◌*◌, ◌≤◌, ◌<◌}
use native.Mathlib.Omega.{arith}
use lib.ListN.{length, get_or, length-drop}
use lib.Dec.{eqb}
use Rattle.std.specs.Prelude.{Option as Maybe, Some, None}
use Rattle.std.specs.Bool.{then_some}
use Rattle.def_tree.specs.Base.{pick}
use Rattle.def_tree.specs.Tree.{Tree, Core, kind, num, plant, first_t, count}
use Rattle.def_pass.specs.Tree.{is_ident}
use Rattle.def_tree.proofs.Place.{plant-flat}
use Rattle.def_pass.specs.Scope as def
use Rattle.def_pass.specs.Scope.{VarInfo, Stack, VarType, is_some, find_in, find_binding_from_current, alias_from, prevent_inline, prevent_inline_o, place_or, declare, kept, init_of, ident_of, prevented_o, should_prevent_inline_because_of_scope, in_loop, is_param, is_inline_prevented}
use Rattle.words.specs.Layout.{tree, run, node_of}
use Rattle.words.proofs.Nodes.{run_length}
use Rattle.words_scopes.specs.State.{Good, stack, index_in, binds, value_of, run_of}
use Rattle.words_scopes.proofs.Split as laws
use Rattle.scope_values.proofs.Count.{length-binds}
use Rattle.scope_values.proofs.Listed.{stack-none}
use Rattle.scope_declare.specs.Declare.{declare_with}
use Rattle.scope_values.specs.Steps.{Offered}
use Rattle.scope_declare.specs.Kinds.{init_at, start_of, nodes_of, Sized, bar_of}
use Rattle.scope_declare.specs.declared.define.Init.{Init}
use Rattle.scope_declare.specs.declared.define.Init.TheVariants.{NoInit, Recorded, Seen}
use Rattle.scope_declare.proofs.Top.{stack_top}
use Rattle.scope_find.specs.Look.{idx_here, bound_here, node_tree}
use Rattle.scope_find.proofs.Facts.{with_index, idx-find, node-tree, or-false}
use Rattle.words_nodes.specs.Nodes.{Planted, tree_from}
use Rattle.words_nodes.proofs.Splice.{subtree-run, subtree-one}
use Rattle.scope_declare.specs.Inits.{place_here, barred_here, works_with, init_from, Sited}

-- the type of a binding, if there is one
abbrev pub kind_of_o : Option VarInfo → Option VarType
kind_of_o none = none
kind_of_o (some b) = some b.kind

with_index-kind : (n : ℕ) (o : Option VarInfo) → alias_from (with_index n o) ≡ kind_of_o o
with_index-kind n none = refl
with_index-kind n (some b) = refl

pub alias-find : (y : ℕ) (st : Stack) → alias_from (idx_here y st) ≡ kind_of_o (find_binding_from_current y st)
alias-find y [] = refl
alias-find y (s ∷ st) = ap alias_from (idx-find 0 y s.bindings) ∙ with_index-kind (0 + index_in y s.bindings) (find_in y s.bindings)

-- a place is one of the bindings, or behind them
index-by : (x : ℕ) (b : VarInfo) (bs : List VarInfo) (p : Bool) → eqb b.id x ≡ p → index_in x (b ∷ bs) ≡ elim p [ true ↦ 0 | false ↦ suc (index_in x bs) ]
index-by x b bs p e = ap (λ (q : Bool). elim q [ true ↦ 0 | false ↦ suc (index_in x bs) ]) e

index-le : (x : ℕ) (bs : List VarInfo) → index_in x bs ≤ length bs
index-le x [] = omega arith
index-le x (b ∷ bs) = laws.tested (eqb b.id x) (λ e. rw (index-by x b bs true e) (omega arith)) (λ e. rw (index-by x b bs false e) (omega (arith, index-le x bs)))

with_index-le : (n m : ℕ) (o : Option VarInfo) → n ≤ m → place_or m (with_index n o) ≤ m
with_index-le n m none h = omega arith
with_index-le n m (some b) h = h

pub place-le : (x : ℕ) (st : Stack) → place_here x st ≤ bound_here st
place-le x [] = omega arith
place-le x (s ∷ st) = rw (idx-find 0 x s.bindings) (with_index-le (0 + index_in x s.bindings) (length s.bindings) (find_in x s.bindings) (omega (arith, index-le x s.bindings)))

module _ (w : List ℕ) (g : Good w) where
  pub bound-here : 0 < get_or w 2 0 → bound_here (stack w) ≡ get_or w 1 0 - get_or w (7184 + (get_or w 2 0 - 1) * 4 + 1) 0
  bound-here z = ap bound_here (stack_top w g z) ∙ length-drop (get_or w (7184 + (get_or w 2 0 - 1) * 4 + 1) 0) (binds w) ∙ ap (λ (n : ℕ). n - get_or w (7184 + (get_or w 2 0 - 1) * 4 + 1) 0) (length-binds w g)

-- an init with the tree at a node
abbrev pub At : Init → ℕ → Type 0
At v i = (v ≡ Recorded i) ⊎ (v ≡ Seen i)

abbrev or_zero : Maybe ℕ → ℕ
or_zero None = 0
or_zero (Some i) = i

abbrev is_given : Maybe ℕ → ℕ
is_given None = 0
is_given (Some i) = 1

pub given_none : {A : Type 0} {i : ℕ} → ◌≡◌ {A = Maybe ℕ} (Some i) None → A
given_none e = let z : ◌≡◌ {A = ℕ} 1 0 = ap is_given e in absurd (omega arith)

pub at-node : (v : Init) {i : ℕ} → start_of v ≡ Some i → At v i
at-node NoInit e = given_none (sym e)
at-node (Recorded j) e = inl (ap Recorded (ap or_zero e))
at-node (Seen j) e = inr (ap Seen (ap or_zero e))

pub bare-node : (v : Init) → start_of v ≡ None → (xs : List Core) → init_from xs v ≡ def.no_init
bare-node NoInit e xs = refl
bare-node (Recorded j) e xs = given_none e
bare-node (Seen j) e xs = given_none e

-- one of a run of the tree's nodes is that of the tree there
pub init-run : {w : List ℕ} (g : Planted w) {i : ℕ} (l : i < get_or w 0 0) {v : Init} → At v i → init_at w v (count (tree_from (tree w) i)) ≡ init_from (tree w) v
init-run {w} g {i} l o = elim o [ inl e ↦ rw e (ap def.recorded is) | inr e ↦ rw e (ap def.seen is) ]
  where
    is : first_t (plant (run w 16 i (count (tree_from (tree w) i)))) ≡ tree_from (tree w) i
    is = ap (λ (xs : List Core). first_t (plant xs)) (subtree-run g l) ∙ ap first_t (plant-flat (tree_from (tree w) i) [])

-- `declare` where the init is no identifier, and where it is one
same-pick : (b : Bool) → pick {A = Stack} b [] [] ≡ []
same-pick true = refl
same-pick false = refl

empty-with : (x : ℕ) (v : Option Tree → Option Tree) (bar : Option ℕ) (p u : Bool) (k : VarType) (al : Option VarType) (l : Bool) → declare_with x v bar p u k al l [] ≡ []
empty-with x v none p u k al l = same-pick l
empty-with x v (some y) p u k al true = refl
empty-with x v (some y) p u k al false = refl

pick-no : (t : Bool) (a b : Stack) → pick (t && false) a b ≡ b
pick-no true a b = refl
pick-no false a b = refl

-- both marks, where a test holds
bar-pick : (t : Bool) (x y : ℕ) (st : Stack) → pick t (prevent_inline_o (some y) (prevent_inline x st)) st ≡ pick (is_some (pick t (some y) none)) (prevent_inline_o (pick t (some y) none) (prevent_inline x st)) st
bar-pick true x y st = refl
bar-pick false x y st = refl

pub bar-is : (t : Bool) (y : ℕ) → bar_of (then_some t y) ≡ pick t (some y) none
bar-is true y = refl
bar-is false y = refl

module _ (again : Bool) (x : ℕ) (v : def.Init) (undefined : Bool) (k : VarType) where
  pub declare-plain : (st : Stack) → ident_of (init_of v) ≡ none → declare again x v undefined k st ≡ declare_with x (kept v) none (again || should_prevent_inline_because_of_scope x st || prevented_o (init_of v) st) undefined k none (in_loop st) st
  unfolding declare
  declare-plain [] e = sym (empty-with x (kept v) none (again || false || prevented_o (init_of v) []) undefined k none false)
  declare-plain (s ∷ st) e = rw e (pick-no (not (is_param k) && true) _ _)

  pub declare-ident : (y : ℕ) (st : Stack) → ident_of (init_of v) ≡ some y
      → declare again x v undefined k st ≡ declare_with x (kept v) (pick (works_with k (alias_from (idx_here y st)) && barred_here x y st) (some y) none) (again || should_prevent_inline_because_of_scope x st || prevented_o (init_of v) st) undefined k (alias_from (idx_here y st)) (in_loop st) st
  unfolding declare
  declare-ident y [] e = sym (empty-with x (kept v) (pick (works_with k none && false) (some y) none) (again || false || prevented_o (init_of v) []) undefined k none false)
  declare-ident y (s ∷ st) e = rw e (bar-pick (works_with k (alias_from (idx_here y (s ∷ st))) && barred_here x y (s ∷ st)) x y _)

pub count-le : (w : List ℕ) → Good w → bound_here (stack w) ≤ 256
count-le w g = go (get_or w 2 0) refl
  where
    go : (d : ℕ) → get_or w 2 0 ≡ d → bound_here (stack w) ≤ 256
    go zero e = rw (stack-none w e) (omega arith)
    go (suc d) e = omega (arith, bound-here w g (omega arith), g.count)

-- the tree at a node, and the node
module _ (w : List ℕ) (i : ℕ) where
  pub node-from : node_tree w i ≡ tree_from (tree w) i
  unfolding node_tree tree_from
  node-from = refl

  module _ (h : i < get_or w 0 0) where
    pub from-kind : kind (tree_from (tree w) i) ≡ (node_of w i).kind
    from-kind = ap kind (sym node-from) ∙ ap kind (node-tree w i h)

    pub from-num : num (tree_from (tree w) i) ≡ (node_of w i).num
    from-num = ap num (sym node-from) ∙ ap num (node-tree w i h)

-- no nodes
no-elements : (xs : List Core) → length xs ≡ 0 → xs ≡ []
no-elements [] e = refl
no-elements (x ∷ xs) e = absurd (omega arith)

pub run_none : (w : List ℕ) → run w 16 0 0 ≡ []
run_none w = no-elements (run w 16 0 0) (run_length w 16 0 0)

pub none-one : (w : List ℕ) → run_of (value_of (run w 16 0 0)) ≡ run w 16 0 0
none-one w = rw (run_none w) refl

-- an init with a value
pub at-lt : {v : Init} {i n : ℕ} → At v i → Sited v n → i < n
at-lt {n} o h = elim o [ inl e ↦ rw e at h | inr e ↦ rw e at h ]

pub at-sized : {v : Init} {i m : ℕ} → At v i → 0 < m → Sized v m
at-sized o h = elim o [ inl e ↦ rw e h | inr e ↦ rw e h ]

at-nodes : {v : Init} {i : ℕ} → At v i → (m : ℕ) → nodes_of v m ≡ record { at = i; len = m }
at-nodes o m = elim o [ inl e ↦ rw e refl | inr e ↦ rw e refl ]

init-value : {v : Init} {i : ℕ} → At v i → (xs : List Core) → init_of (init_from xs v) ≡ some (tree_from xs i)
init-value o xs = elim o [ inl e ↦ rw e refl | inr e ↦ rw e refl ]

same-with : {p p' l l' : Bool} {b b' : Option ℕ} {al al' : Option VarType} (x : ℕ) (f : Option Tree → Option Tree) (u : Bool) (k : VarType) (st : Stack) → p ≡ p' → al ≡ al' → l ≡ l' → b ≡ b'
    → declare_with x f b p u k al l st ≡ declare_with x f b' p' u k al' l' st
same-with x f u k st a c d g = rw (a, c, d, g) refl

or_assoc : (a b c : Bool) → (a || b || c) ≡ (a || (b || c))
or_assoc true b c = refl
or_assoc false b c = refl

-- `declare` without an init
pub bare-is : (again : Bool) (x : ℕ) (undefined : Bool) (k : VarType) (st : Stack) (p l : Bool) → p ≡ (again || should_prevent_inline_because_of_scope x st) → l ≡ in_loop st → declare_with x (kept def.no_init) none p undefined k none l st ≡ declare again x def.no_init undefined k st
bare-is again x undefined k st p l ep el =
    same-with {b = none} {al = none} x (kept def.no_init) undefined k st (ep ∙ sym (or-false (again || should_prevent_inline_because_of_scope x st))) refl el refl ∙ sym (declare-plain again x def.no_init undefined k st refl)

-- and with the tree at i
module _ {w : List ℕ} (g : Planted w) {i : ℕ} (h : i < get_or w 0 0) (v : Init) (o : At v i) (again : Bool) (x m : ℕ) (em : m ≡ count (tree_from (tree w) i)) (undefined : Bool) (k : VarType) (p l : Bool)
    (ep : p ≡ (again || (should_prevent_inline_because_of_scope x (stack w) || is_inline_prevented (tree_from (tree w) i) (stack w)))) (el : l ≡ in_loop (stack w)) where
  abbrev t : Tree
  t = tree_from (tree w) i

  init-is : init_at w v m ≡ init_from (tree w) v
  init-is = ap (init_at w v) em ∙ init-run g h o

  prevented-is : p ≡ (again || should_prevent_inline_because_of_scope x (stack w) || prevented_o (init_of (init_from (tree w) v)) (stack w))
  prevented-is = ep ∙ sym (or_assoc again (should_prevent_inline_because_of_scope x (stack w)) (is_inline_prevented t (stack w))) ∙ ap (λ (e : Option Tree). again || should_prevent_inline_because_of_scope x (stack w) || prevented_o e (stack w)) (sym (init-value o (tree w)))

  pub value-is : is_ident t ≡ false → declare_with x (kept (init_at w v m)) none p undefined k none l (stack w) ≡ declare again x (init_from (tree w) v) undefined k (stack w)
  value-is e =
      ap (λ (q : def.Init). declare_with x (kept q) none p undefined k none l (stack w)) init-is ∙ same-with {b = none} {al = none} x (kept (init_from (tree w) v)) undefined k (stack w) prevented-is refl el refl
      ∙ sym (declare-plain again x (init_from (tree w) v) undefined k (stack w) (ap ident_of (init-value o (tree w)) ∙ ap (λ (b : Bool). pick b (some (num t)) none) e))

  pub ident-is : is_ident t ≡ true → (y : ℕ) → y ≡ num t → (al : Option VarType) → al ≡ alias_from (idx_here y (stack w)) → (bar : Option ℕ) → bar ≡ pick (works_with k al && barred_here x y (stack w)) (some y) none
      → declare_with x (kept (init_at w v m)) bar p undefined k al l (stack w) ≡ declare again x (init_from (tree w) v) undefined k (stack w)
  ident-is e y ey al ea bar eb =
      ap (λ (q : def.Init). declare_with x (kept q) bar p undefined k al l (stack w)) init-is
      ∙ same-with x (kept (init_from (tree w) v)) undefined k (stack w) prevented-is ea el (eb ∙ ap (λ (a : Option VarType). pick (works_with k a && barred_here x y (stack w)) (some y) none) ea)
      ∙ sym (declare-ident again x (init_from (tree w) v) undefined k y (stack w) (ap ident_of (init-value o (tree w)) ∙ ap (λ (b : Bool). pick b (some (num t)) none) e ∙ ap some (sym ey)))

-- no nodes, and those of the tree at i
pub offered_none : (w : List ℕ) → Offered w (record { at = 0; len = 0 })
offered_none w = record { inside = omega arith; one = none-one w }

pub offered-tree : {w : List ℕ} → Planted w → {i : ℕ} → i < get_or w 0 0 → {v : Init} → At v i → (m : ℕ) → m ≡ count (tree_from (tree w) i) → i + m ≤ get_or w 0 0 → Offered w (nodes_of v m)
offered-tree {w} g h o m e l = subst (Offered w) (sym (at-nodes o m)) (record { inside = l; one = rw e (subtree-one g h) })

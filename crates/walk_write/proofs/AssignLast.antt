-- What is written and recorded after the walk of an assignment's value. Assumes nothing.
use Rattle.std.proofs.Common.{Result}
use mathlib.Core.Path.{◌≡◌, refl, sym, ap, ◌∙◌}
use mathlib.Core.List.{List, []}
use mathlib.Core.Bool.{Bool, true, false}
use mathlib.Core.Option.{Option, none, some}
use Prim.Native.Nat.{ℕ, zero, suc, ◌+◌, ◌-◌, ◌≤◌, ◌<◌}
use native.Mathlib.Nat.{not-suc-le-zero}
use native.Mathlib.Omega.{arith}
use lib.Dec.{eqb}
use lib.ListN.{get_or, drop}
use borrow.Author.Tests.{eq-eqb, ne_eqb}
use Rattle.def_tree.specs.Base.{pick}
use Rattle.def_tree.specs.Tree.{Tree, Forest, nil, cons, kind, num, length_f, count, Core, no_core, take_f, drop_f, plant, first_t}
use Rattle.def_tree.specs.Combine.{Res, done, Nothing, M, and_then, iff, ret, ◌>>◌, on_rest, tree_at, forest_at, act, act_f}
use Rattle.def_pass.specs.Tree.{is_cheap, head_t, bound_names}
use Rattle.def_pass.specs.Scope.{VarInfo, find_binding, var_inline_prevented, prevented_o, prevent_each, change, with_value}
use Rattle.def_pass.specs.Walk.{St, when, mark, grow, write, store_value, store_o, assign_last}
use Rattle.words.specs.Layout.{tree, node_of}
use Rattle.words.proofs.Nodes.{tree-at}
use Rattle.words_scopes.specs.State.{stack}
use Rattle.scope_values.specs.Steps.{Grown}
use Rattle.refusal.specs.declared.Refusal.{Refusal}
use Rattle.refusal.specs.Number.{refused}
use Rattle.words_nodes.specs.Nodes.{Planted, tree_from, forest_from}
use Rattle.words_nodes.proofs.Loops.{Open, open-past, forest-here, forest-past}
use Rattle.words_nodes.proofs.Words.{tree-whole, in_tree}
use Rattle.words_state.specs.State.{rest, abs, Act}
use Rattle.scope.specs.Handles.{tree_o, of_binding}
use Rattle.scope.proofs.Numbers.{tree-in}
use Rattle.walk_write.proofs.Steps.{Step, step-act, act-step, step-as, step-none, step_then, step-stop, step-tree, act-tree, act-count, record-step}
use Rattle.walk_write.proofs.Shapes.{head_of}
use Rattle.walk_write.proofs.Marks.{kind-here}

-- a value recorded for the binding of l
module _ {w : List ℕ} (g : Planted w) (l r : Tree) (x : ℕ) (q : num l ≡ x) (o : Option VarInfo) (p : find_binding x (stack w) ≡ o) where
  abbrev to : M St Nothing
  to = grow (change (num l) (with_value (pick (is_cheap r) (some r) none)))

  abbrev by : Option VarInfo → Res St Nothing
  by o = elim o [ none ↦ done (rest w) tt | some b ↦ iff (var_inline_prevented b) (ret tt) to (rest w) ]

  binding-is : by o ≡ store_value l r (rest w)
  unfolding rest
  binding-is = ap by (sym (ap (λ (a : ℕ). find_binding a (stack w)) q ∙ p))

  pub store-none : o ≡ none → Act w w 0 (on_rest (store_value l r) (abs w))
  store-none z = step-act (store_value l r) (step-as (ap by (sym z) ∙ binding-is) (step-none g))

  held-is : (o : Option VarInfo) → of_binding var_inline_prevented o ≡ true → done (rest w) tt ≡ by o
  held-is none e = refl
  held-is (some b) e = ap (λ (c : Bool). iff c (ret tt) to (rest w)) (sym e)

  pub store-held : of_binding var_inline_prevented o ≡ true → Act w w 0 (on_rest (store_value l r) (abs w))
  store-held e = step-act (store_value l r) (step-as (held-is o e ∙ binding-is) (step-none g))

  pub store_kept : {u : List ℕ} {v : Option Tree} (s : Result Unit Refusal) (b : VarInfo) → o ≡ some b → of_binding var_inline_prevented o ≡ false → v ≡ pick (is_cheap r) (some r) none → Grown w u (change x (with_value v) (stack w)) s → Act w u (refused s) (on_rest (store_value l r) (abs w))
  store_kept {u} {v} s b z e c d =
      let f : var_inline_prevented b ≡ false = sym (ap (of_binding var_inline_prevented) z) ∙ e in
      let to_is : grow (change x (with_value v)) (rest w) ≡ to (rest w) = ap (λ (a : ℕ). grow (change a (with_value v)) (rest w)) (sym q) ∙ ap (λ (o : Option Tree). grow (change (num l) (with_value o)) (rest w)) c in
      step-act (store_value l r) (step-as (to_is ∙ ap (λ (c : Bool). iff c (ret tt) to (rest w)) (sym f) ∙ ap by (sym z) ∙ binding-is) (record-step g (change x (with_value v)) s d))

-- by target and values
module _ (l : Tree) (rs : Forest) (s : St) where
  abbrev last : Bool → Bool → Res St Nothing
  last p k = iff p (mark (prevent_each (bound_names l []))) (when k (write false l >> store_o l (head_t rs))) s

  last-is : (p k : Bool) → prevented_o (head_t rs) s.stack ≡ p → eqb (kind l) 20 ≡ k → last p k ≡ assign_last (cons l rs) s
  unfolding assign_last
  last-is p k e d = ap (λ (c : Bool). last p c) (sym d) ∙ ap (λ (c : Bool). last c (eqb (kind l) 20)) (sym e)

-- n trees from i on
first_of : (n : ℕ) (ts : Forest) → 0 < n → first_t (take_f n ts) ≡ first_t ts
first_of zero ts h = absurd (not-suc-le-zero h)
first_of (suc n) nil h = refl
first_of (suc n) (cons t ts) h = refl

pub last_none : {w : List ℕ} → Planted w → (n i : ℕ) → n ≡ 0 → Act w w 0 (act_f assign_last n i (abs w))
unfolding assign_last forest_at
last_none g n i z = rw z (step-act (assign_last nil) (step-none g))

module _ {w : List ℕ} (g : Planted w) (n i : ℕ) (o : n ≤ length_f (plant (drop i (tree w)))) (h : n ≡ 0 → ⊥) where
  still : Open (tree w) i n
  still = record { trees = o }

  z : 0 < n
  z = omega (arith, h)

  abbrev l : Tree
  l = tree_at (abs w) i

  abbrev rs : Forest
  rs = forest_from (tree w) (n - 1) (i + count (tree_from (tree w) i))

  pub target-in : i < get_or w 0 0
  target-in = in_tree g still z

  split : forest_at (abs w) n i ≡ cons l rs
  unfolding forest_at forest_from tree_at
  split =
      let e = forest-here (tree-whole g) still z in
      e ∙ ap (λ (t : Tree). cons t (take_f (n - 1) (drop_f (get_or (tree w) i no_core).arity (plant (drop (i + 1) (tree w)))))) (sym (ap first_t e) ∙ first_of n (plant (drop i (tree w))) z)
      ∙ ap (cons l) (sym (forest-past (tree-whole g) still z))

  to_last : {u : List ℕ} {r : ℕ} → Step w u r (assign_last (cons l rs) (rest w)) → Act w u r (act_f assign_last n i (abs w))
  to_last d = step-act (assign_last (forest_at (abs w) n i)) (rw split d)

  is_name_lem : (node_of w i).kind ≡ 20 → eqb (kind l) 20 ≡ true
  is_name_lem k = eq-eqb (kind l) 20 (kind-here w i target-in ∙ k)

  no_name : ((node_of w i).kind ≡ 20 → ⊥) → eqb (kind l) 20 ≡ false
  no_name k = ne_eqb (kind l) 20 (λ (e : kind l ≡ 20). k (sym (kind-here w i target-in) ∙ e))

  -- is the value, if there is one, not prevented
  abbrev pub Free : Type 0
  Free = prevented_o (head_t rs) (rest w).stack ≡ false

  no_value_lem : n ≡ 1 → head_t rs ≡ none
  unfolding forest_from
  no_value_lem e = rw e refl

  pub free-alone : n ≡ 1 → Free
  free-alone e = ap (λ (v : Option Tree). prevented_o v (rest w).stack) (no_value_lem e)

  -- the value begins at j
  module _ (j : ℕ) (ej : j ≡ i + count (tree_from (tree w) i)) where
    behind : Open (tree w) (i + count (tree_from (tree w) i)) (n - 1)
    behind = open-past (tree-whole g) still z

    pub value_in : 1 < n → j < get_or w 0 0
    value_in m = rw ej (in_tree g behind (omega (arith, m)))

    value-is : 1 < n → head_t rs ≡ some (tree_at (abs w) j)
    unfolding forest_from tree_at
    value-is m = head_of (n - 1) (plant (drop (i + count (tree_from (tree w) i)) (tree w))) (omega (arith, m)) behind.trees ∙ ap (λ (k : ℕ). some (first_t (plant (drop k (tree w))))) (sym ej)

    prevented-is : 1 < n → {p : Bool} → p ≡ prevented_o (tree_o (tree w) j) (stack w) → prevented_o (head_t rs) (rest w).stack ≡ p
    unfolding rest tree_at tree_from
    prevented-is m e = ap (λ (v : Option Tree). prevented_o v (stack w)) (value-is m ∙ sym (tree-in w j (value_in m))) ∙ sym e

    pub free-value : {p : Bool} → 1 < n → p ≡ prevented_o (tree_o (tree w) j) (stack w) → p ≡ false → Free
    free-value m e d = prevented-is m e ∙ d

    pub last-prevented : {u : List ℕ} {p : Bool} → 1 < n → p ≡ prevented_o (tree_o (tree w) j) (stack w) → p ≡ true → Act w u 0 (act (λ t. mark (prevent_each (bound_names t []))) i (abs w)) → Act w u 0 (act_f assign_last n i (abs w))
    last-prevented m e d a = to_last (step-as (last-is l rs (rest w) true (eqb (kind l) 20) (prevented-is m e ∙ d) refl) (act-step (mark (prevent_each (bound_names l []))) a))

  module _ (f : Free) where
    pub last-other : ((node_of w i).kind ≡ 20 → ⊥) → Act w w 0 (act_f assign_last n i (abs w))
    last-other k = to_last (step-as (last-is l rs (rest w) false false f (no_name k)) (step-none g))

    module _ {u : List ℕ} {r : ℕ} (k : (node_of w i).kind ≡ 20) (a : Act w u r (act (write false) i (abs w))) where
      first : Step w u r (write false l (rest w))
      first = act-step (write false l) a

      then-as : and_then (write false l (rest w)) (λ x. store_o l (head_t rs)) ≡ assign_last (cons l rs) (rest w)
      then-as = last-is l rs (rest w) false true f (is_name_lem k)

      pub last-stop : 0 < r → Act w u r (act_f assign_last n i (abs w))
      last-stop y = to_last (step-as then-as (step-stop (store_o l (head_t rs)) first y))

      pub last-alone : r ≡ 0 → n ≡ 1 → Act w u 0 (act_f assign_last n i (abs w))
      last-alone c e = to_last (step-as then-as (step_then (store_o l (head_t rs)) first c (step-as (ap (λ (v : Option Tree). store_o l v (rest u)) (sym (no_value_lem e))) (step-none a.ok.planted))))

      pub last_stored : {v : List ℕ} {y j : ℕ} → r ≡ 0 → j ≡ i + count (tree_from (tree w) i) → (n ≡ 1 → ⊥) → Act u v y (on_rest (store_value (tree_at (abs u) i) (tree_at (abs u) j)) (abs u)) → Act w v y (act_f assign_last n i (abs w))
      unfolding tree_at
      last_stored {v} {y} {j} c ej m b =
          let t : tree u ≡ tree w = step-tree (store_o l (head_t rs)) first c in
          let at : List Core → ℕ → Tree = λ xs k. first_t (plant (drop k xs)) in
          let d : Step u v y (store_value (at (tree u) i) (at (tree u) j) (rest u)) = act-step (store_value (at (tree u) i) (at (tree u) j)) b in
          let q : store_value (at (tree u) i) (at (tree u) j) (rest u) ≡ store_o l (head_t rs) (rest u) = ap (λ (xs : List Core). store_value (at xs i) (at xs j) (rest u)) t ∙ ap (λ (v : Option Tree). store_o l v (rest u)) (sym (value-is j ej (omega (arith, h, m)))) in
          to_last (step-as then-as (step_then (store_o l (head_t rs)) first c (step-as q d)))

-- the words after the target was written
pub store_needs : {w u : List ℕ} {r : ℕ} (i j : ℕ) → Act w u r (act (write false) i (abs w)) → r ≡ 0 → i < get_or w 0 0 → j < get_or w 0 0 → (node_of w i).kind ≡ 20 → Planted u × (i < get_or u 0 0) × (j < get_or u 0 0) × ((node_of u i).kind ≡ 20)
store_needs {w} {u} i j a z li lj k =
    let t : tree u ≡ tree w = act-tree (write false (tree_at (abs w) i)) a z in
    let n : get_or u 0 0 ≡ get_or w 0 0 = act-count (write false (tree_at (abs w) i)) a z in
    let e : node_of u i ≡ node_of w i = sym (tree-at u i (omega arith)) ∙ ap (λ (xs : List Core). get_or xs i no_core) t ∙ tree-at w i li in
    (a.ok.planted, omega arith, omega arith, ap (λ (c : Core). c.kind) e ∙ k)

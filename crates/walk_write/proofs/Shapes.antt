-- Which trees the thin functions write. Assumes nothing.
use mathlib.Core.Path.{◌≡◌, refl, sym, ap, ◌∙◌}
use mathlib.Core.List.{List}
use mathlib.Core.Bool.{Bool, true, false}
use mathlib.Core.Option.{Option, none, some}
use lib.Dec.{eqb}
use borrow.Author.Tests.{eq-eqb, ne_eqb}
use Prim.Native.Nat.{ℕ, zero, suc, ◌+◌, ◌-◌, ◌≤◌, ◌<◌}
use native.Mathlib.Nat.{le_of_suc-le-suc, not-suc-le-zero}
use native.Mathlib.Numerals.{add-one}
use native.Mathlib.Omega.{arith}
use lib.ListN.{get_or, drop, length}
use lib.Seq.{drop-cons}
use Rattle.def_tree.specs.Tree.{Tree, Forest, nil, cons, kids, length_f, Core, no_core, take_f, plant, first_t}
use Rattle.def_tree.specs.Combine.{Nothing, M, on_rest, tree_at, forest_at, act, act_f}
use Rattle.def_pass.specs.Walk.{St, when, write, writes, write_tree, write_forest, write_name, but_last}
use Rattle.def_pass.specs.Tree.{head_t}
use Rattle.words.specs.Layout.{tree, node_of}
use Rattle.words.proofs.Nodes.{tree-length, tree-at}
use Rattle.words_nodes.specs.Nodes.{Planted, tree_from, forest_from}
use Rattle.words_nodes.proofs.Loops.{Open, open-first, open_in, forest-first}
use Rattle.words_nodes.proofs.Words.{tree-whole, in_tree}
use Rattle.words_state.specs.State.{rest, abs, Act}
use Rattle.walk_write.proofs.Steps.{Step, act-as, step-act, act-step, step-as, step-none}
use Rattle.walk_write.proofs.Marks.{kind-here, when-no, when-yes}

-- one tree
pub one-tree : {w u : List ℕ} {r : ℕ} (force : Bool) (i : ℕ) → i < get_or w 0 0 → Act w u r (act_f (write_forest force) 1 i (abs w)) → Act w u r (act (write_tree force) i (abs w))
unfolding write_tree write_forest tree_at forest_at forest_from tree_from
one-tree {w} force i l a = act-as (ap (λ (ts : Forest). on_rest (write_forest force ts) (abs w)) (forest-first (tree w) i (rw tree-length l))) a

-- all but the last
but_last_lem : (n : ℕ) (ts : Forest) → suc n ≤ length_f ts → but_last (take_f (suc n) ts) ≡ take_f n ts
but_last_lem n nil h = absurd (not-suc-le-zero h)
but_last_lem zero (cons t ts) h = refl
but_last_lem (suc n) (cons t nil) h = absurd (not-suc-le-zero (le_of_suc-le-suc h))
but_last_lem (suc n) (cons t (cons u us)) h = ap (cons t) (but_last_lem n (cons u us) (le_of_suc-le-suc h))

pub none_last : {w : List ℕ} (force : Bool) (n i : ℕ) → n ≡ 0 → Planted w → Act w w 0 (act_f (λ ts. write_forest force (but_last ts)) n i (abs w))
unfolding forest_at write_forest writes
none_last force n i z g = rw z (step-act (write_forest force nil) (step-none g))

module _ {w u : List ℕ} {r : ℕ} (force : Bool) (n i : ℕ) where
  pub but-last-act : (n ≡ 0 → ⊥) → n ≤ length_f (plant (drop i (tree w))) → Act w u r (act_f (write_forest force) (n - 1) i (abs w)) → Act w u r (act_f (λ ts. write_forest force (but_last ts)) n i (abs w))
  unfolding forest_at
  but-last-act z h a =
      let s : n ≡ suc (n - 1) = omega (arith, z) in
      let e : but_last (take_f n (plant (drop i (tree w)))) ≡ take_f (n - 1) (plant (drop i (tree w))) = ap (λ (k : ℕ). but_last (take_f k (plant (drop i (tree w))))) s ∙ but_last_lem (n - 1) (plant (drop i (tree w))) (omega arith) in
      act-as (ap (λ (ts : Forest). on_rest (write_forest force ts) (abs w)) (sym e)) a

-- the first one
pub head_of : (n : ℕ) (ts : Forest) → 0 < n → n ≤ length_f ts → head_t (take_f n ts) ≡ some (first_t ts)
head_of zero ts h o = absurd (not-suc-le-zero h)
head_of (suc n) nil h o = absurd (not-suc-le-zero o)
head_of (suc n) (cons t ts) h o = refl

-- a node's children
module _ {w : List ℕ} (g : Planted w) (i : ℕ) (l : i < get_or w 0 0) {n : ℕ} (e : n ≡ (node_of w i).arity) where
  arity-is : n ≡ (get_or (tree w) i no_core).arity
  arity-is = e ∙ ap (λ (c : Core). c.arity) (sym (tree-at w i l))

  inside : i < length (tree w)
  inside = rw tree-length l

  pub kids-open : n ≤ length_f (plant (drop (i + 1) (tree w)))
  kids-open = rw arity-is (let o : Open (tree w) (i + 1) (1 - 1 + (get_or (tree w) i no_core).arity) = open_in (tree-whole g) (open-first (tree w) i inside) (omega arith) in omega (arith, o.trees))

  pub kids-are : kids (tree_at (abs w) i) ≡ forest_at (abs w) n (i + 1)
  unfolding tree_at forest_at
  kids-are = rw (arity-is, drop-cons (tree w) i no_core inside, add-one) refl

  pub kids-act : {u : List ℕ} {r : ℕ} (m : Forest → M St Nothing) → Act w u r (act_f m n (i + 1) (abs w)) → Act w u r (act (λ t. m (kids t)) i (abs w))
  kids-act m a = act-as (ap (λ (ts : Forest). on_rest (m ts) (abs w)) (sym kids-are)) a

  -- the first child
  pub no-child : n ≡ 0 → head_t (kids (tree_at (abs w) i)) ≡ none
  unfolding forest_at
  no-child z = ap head_t kids-are ∙ rw z refl

  pub child-here : (n ≡ 0 → ⊥) → head_t (kids (tree_at (abs w) i)) ≡ some (tree_at (abs w) (i + 1))
  unfolding tree_at forest_at
  child-here h = ap head_t kids-are ∙ head_of n (plant (drop (i + 1) (tree w))) (omega (arith, h)) kids-open

  pub child-in : (n ≡ 0 → ⊥) → i + 1 < get_or w 0 0
  child-in h = in_tree g (record { trees = kids-open }) (omega (arith, h))

-- a step on a node's first child
pub child-act : {w u : List ℕ} {r : ℕ} (i : ℕ) (m : Option Tree → M St Nothing) {o : Option Tree} → head_t (kids (tree_at (abs w) i)) ≡ o → Step w u r (m o (rest w)) → Act w u r (act (λ t. m (head_t (kids t))) i (abs w))
child-act {w} i m e d = step-act (m (head_t (kids (tree_at (abs w) i)))) (step-as (ap (λ (v : Option Tree). m v (rest w)) (sym e)) d)

-- a name that is written
module _ {w : List ℕ} (i : ℕ) where
  pub name-none : Planted w → head_t (kids (tree_at (abs w) i)) ≡ none → Act w w 0 (act (λ t. write_name (head_t (kids t))) i (abs w))
  unfolding write_name
  name-none g e = child-act i write_name e (step-none g)

  module _ (l : i + 1 < get_or w 0 0) (e : head_t (kids (tree_at (abs w) i)) ≡ some (tree_at (abs w) (i + 1))) where
    pub name-other : Planted w → ((node_of w (i + 1)).kind ≡ 20 → ⊥) → Act w w 0 (act (λ t. write_name (head_t (kids t))) i (abs w))
    unfolding write_name
    name-other g h = child-act i write_name e (when-no (write true (tree_at (abs w) (i + 1))) g (ap (λ (k : ℕ). eqb k 20) (kind-here w (i + 1) l) ∙ ne_eqb (node_of w (i + 1)).kind 20 h))

    pub name-written : {u : List ℕ} {r : ℕ} → (node_of w (i + 1)).kind ≡ 20 → Act w u r (act (write true) (i + 1) (abs w)) → Act w u r (act (λ t. write_name (head_t (kids t))) i (abs w))
    unfolding write_name
    name-written k a = child-act i write_name e (when-yes (write true (tree_at (abs w) (i + 1))) (ap (λ (k : ℕ). eqb k 20) (kind-here w (i + 1) l) ∙ eq-eqb (node_of w (i + 1)).kind 20 k) (act-step (write true (tree_at (abs w) (i + 1))) a))

-- arguments, of a call
pub args-act : {w u : List ℕ} {r : ℕ} {b : Bool} (n i : ℕ) → b ≡ true → Act w u r (act_f (write_forest false) n i (abs w)) → Act w u r (act_f (λ ts. when b (write_forest false ts)) n i (abs w))
args-act {w} {b = b} n i e a = step-act (when b (write_forest false (forest_at (abs w) n i))) (when-yes (write_forest false (forest_at (abs w) n i)) e (act-step (write_forest false (forest_at (abs w) n i)) a))

pub args_none : {w : List ℕ} {b : Bool} (n i : ℕ) → Planted w → b ≡ false → Act w w 0 (act_f (λ ts. when b (write_forest false ts)) n i (abs w))
args_none {w} {b} n i g e = step-act (when b (write_forest false (forest_at (abs w) n i))) (when-no (write_forest false (forest_at (abs w) n i)) g e)

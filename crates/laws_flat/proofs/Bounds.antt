-- Patterns on the list, node by node: the names that trees bind, and whether an assignment is to a pattern. Of any list. Assumes nothing.
use mathlib.Core.Path.{◌≡◌, refl, sym, ap, ◌∙◌}
use mathlib.Core.Bool.{Bool, true, false, ◌&&◌, ◌||◌}
use mathlib.Core.List.{List, [], ◌∷◌}
use Prim.Native.Nat.{ℕ, zero, suc, ◌+◌}
use native.Mathlib.Nat.{zero-add, suc-add}
use native.Mathlib.Numerals.{add-one}
use lib.Dec.{eqb}
use lib.ListN.{get_or, drop}
use Rattle.def_tree.specs.Tree.{Tree, Forest, nil, cons, Core, no_core, flat, take_f, drop_f, plant, first_t}
use Rattle.def_tree.specs.Combine.{Flat, node_at, tree_at}
use Rattle.def_tree.proofs.Place.{plant-flat}
use Rattle.def_pass.specs.Tree.{head_t, in_pattern, bound_names, bound_names_f}
use Rattle.def_pass.specs.Walk.{pattern_o, to_pattern}
use Rattle.laws_flat.specs.PassF.{some!, bounds_l}

drop-none : (q : ℕ) → drop_f q nil ≡ nil
drop-none zero = refl
drop-none (suc q) = refl

take_none : (n : ℕ) → take_f n nil ≡ nil
take_none zero = refl
take_none (suc n) = refl

drop-drop : (n q : ℕ) (ts : Forest) → drop_f q (drop_f n ts) ≡ drop_f (n + q) ts
drop-drop zero q ts = ap (λ (m : ℕ). drop_f m ts) (sym (zero-add q))
drop-drop (suc n) q nil = drop-none q ∙ sym (drop-none (suc n + q))
drop-drop (suc n) q (cons t ts) = drop-drop n q ts ∙ ap (λ (m : ℕ). drop_f m (cons t ts)) (sym (suc-add n q))

-- n trees, and then m: a pattern is passed by, and its children come instead
pub bounds-more : (n m : ℕ) (ts : Forest) → bound_names_f (take_f n ts) (bound_names_f (take_f m (drop_f n ts)) []) ≡ bound_names_f (take_f (n + m) ts) []
bounds-more zero m ts = ap (λ (k : ℕ). bound_names_f (take_f k ts) []) (sym (zero-add m))
bounds-more (suc n) m nil = ap (λ (us : Forest). bound_names_f us []) (take_none m ∙ sym (take_none (suc n + m)))
bounds-more (suc n) m (cons t ts) = ap (bound_names t) (bounds-more n m ts) ∙ ap (λ (k : ℕ). bound_names_f (take_f k (cons t ts)) []) (sym (suc-add n m))

pub bounds-are : (n q : ℕ) (cs : List Core) → bounds_l n q cs ≡ bound_names_f (take_f n (drop_f q (plant cs))) []
bounds-are n q [] = sym (ap (λ (us : Forest). bound_names_f us []) (ap (take_f n) (drop-none q) ∙ take_none n))
bounds-are n (suc q) (c ∷ cs) = bounds-are n (c.arity + q) cs ∙ ap (λ (us : Forest). bound_names_f (take_f n us) []) (sym (drop-drop c.arity q (plant cs)))
bounds-are zero zero (c ∷ cs) = refl
bounds-are (suc n) zero (c ∷ cs) = go (eqb c.kind 20) (in_pattern c.kind) (bounds-are n c.arity cs) (bounds-are (c.arity + n) zero cs ∙ sym (bounds-more c.arity n (plant cs)))
  where
    behind : List ℕ
    behind = bound_names_f (take_f n (drop_f c.arity (plant cs))) []

    go : (b p : Bool) → bounds_l n c.arity cs ≡ behind → bounds_l (c.arity + n) zero cs ≡ bound_names_f (take_f c.arity (plant cs)) behind
        → ◌≡◌ {A = List ℕ} (elim b [ true ↦ c.num ∷ bounds_l n c.arity cs | false ↦ elim p [ true ↦ bounds_l (c.arity + n) zero cs | false ↦ bounds_l n c.arity cs ] ])
        (elim b [ true ↦ c.num ∷ behind | false ↦ elim p [ true ↦ bound_names_f (take_f c.arity (plant cs)) behind | false ↦ behind ] ])
    go true p h k = ap (λ (is : List ℕ). c.num ∷ is) h
    go false true h k = k
    go false false h k = h

-- of the tree that comes next
pub bounds-next : (cs : List Core) → bounds_l 1 0 cs ≡ bound_names (first_t (plant cs)) []
bounds-next [] = refl
bounds-next (c ∷ cs) = bounds-are 1 0 (c ∷ cs)

pub bounds-tree : (t : Tree) (xs : List Core) → bounds_l 1 0 (flat t xs) ≡ bound_names t []
bounds-tree t xs = bounds-next (flat t xs) ∙ ap (λ (ts : Forest). bound_names (first_t ts) []) (plant-flat t xs)

-- of the tree at i: what assign_last and catch_param ask for
pub bounds-at : {S : Type 0} (st : Flat S) (i : ℕ) → bounds_l 1 0 (drop i st.nodes) ≡ bound_names (tree_at st i) []
unfolding tree_at
bounds-at st i = bounds-next (drop i st.nodes)

-- an assignment to a pattern, by its own node and the next one
pattern-from : (cs : List Core) (i : ℕ) → to_pattern (first_t (plant (drop i cs))) ≡ (eqb (get_or cs i no_core).form 0 && (some! (get_or cs i no_core).arity && (eqb (get_or cs (suc i) no_core).kind 45 || eqb (get_or cs (suc i) no_core).kind 46)))
pattern-from [] zero = refl
pattern-from [] (suc i) = refl
pattern-from (c ∷ cs) zero = ap (λ (b : Bool). eqb c.form 0 && b) (go c.arity cs)
  where
    go : (n : ℕ) (cs : List Core) → pattern_o (head_t (take_f n (plant cs))) ≡ (some! n && (eqb (get_or cs zero no_core).kind 45 || eqb (get_or cs zero no_core).kind 46))
    go zero cs = refl
    go (suc n) [] = refl
    go (suc n) (d ∷ ds) = refl
pattern-from (c ∷ cs) (suc i) = pattern-from cs i

pub pattern-at : {S : Type 0} (st : Flat S) (i : ℕ) → to_pattern (tree_at st i) ≡ (eqb (node_at st i).form 0 && (some! (node_at st i).arity && (eqb (node_at st (i + 1)).kind 45 || eqb (node_at st (i + 1)).kind 46)))
unfolding tree_at
pattern-at st i = rw add-one (pattern-from st.nodes i)

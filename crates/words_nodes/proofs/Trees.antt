-- Trees in a list of nodes: where they and their children stand, and that one tree stays one tree. Assumes nothing.
use mathlib.Core.Path.{◌≡◌, refl, sym, ap, ◌∙◌}
use mathlib.Core.List.{List, [], ◌∷◌, ◌++◌, append_assoc}
use mathlib.Core.Bool.{Bool, true, false, ◌||◌}
use mathlib.Core.Logic.{◌⊎◌, ⊎_elim}
use Prim.Native.Nat.{ℕ, zero, suc, ◌+◌, ◌-◌, ◌≤◌, ◌<◌, max}
use native.Mathlib.Nat.{zero-add, suc-add}
use native.Mathlib.Numerals.{add-one}
use native.Mathlib.Omega.{arith}
use borrow.Author.Tests.{ne_eqb}
use lib.Dec.{eqb}
use lib.ListN.{length, get_or, take, drop, take-append-drop, length-drop, length-append}
use lib.Seq.{drop-cons, drop-drop, length-take-le, set_at, take_at, drop-append-add}
use Rattle.def_tree.specs.Tree.{Tree, Forest, node, nil, cons, length_f, count, counts, Core, core, no_core, flat, flats, take_f, drop_f, plant, first_t, tail_f}
use Rattle.def_tree.specs.Combine.{Flat, tree_at, re_arity}
use Rattle.def_tree.proofs.Place.{append_f, plant-flat, plant-flats, drop-flat, drop-flats}
use Rattle.def_tree.proofs.Whole.{Whole, whole_drop, whole-flat, whole-flats, length-append_f, length-take_f, length-drop_f, flats-take-drop, unplant, tree-nodes}
use Rattle.def_pass.specs.Tree.{height, heights, has_this, has_this_f}
use Rattle.words_nodes.specs.Nodes.{tree_from, forest_from, One, Trees, Child, put_at, cut_at}

-- forests end to end
append-nil : (ts : Forest) → append_f ts nil ≡ ts
append-nil nil = refl
append-nil (cons t ts) = ap (cons t) (append-nil ts)

pub take-add : (n m : ℕ) (ts : Forest) → take_f (n + m) ts ≡ append_f (take_f n ts) (take_f m (drop_f n ts))
take-add zero m ts = rw zero-add refl
take-add (suc n) m nil = rw suc-add (none m)
  where
    none : (m : ℕ) → nil ≡ take_f m nil
    none zero = refl
    none (suc m) = refl
take-add (suc n) m (cons t ts) = rw suc-add (ap (cons t) (take-add n m ts))

first_rest : (ts : Forest) → 0 < length_f ts → ts ≡ cons (first_t ts) (tail_f ts)
first_rest nil h = absurd (omega arith)
first_rest (cons t ts) h = refl

pub counts-append : (ts us : Forest) → counts (append_f ts us) ≡ counts ts + counts us
counts-append nil us = sym (zero-add (counts us))
counts-append (cons t ts) us = rw (counts-append ts us) (omega arith)

pub heights-append : (ts us : Forest) → heights (append_f ts us) ≡ max (heights ts) (heights us)
heights-append nil us = omega arith
heights-append (cons t ts) us = rw (heights-append ts us) (omega arith)

pub this-append : (ts us : Forest) → has_this_f (append_f ts us) ≡ (has_this_f ts || has_this_f us)
this-append nil us = refl
this-append (cons t ts) us = rw (this-append ts us) (or (has_this t) (has_this_f ts) (has_this_f us))
  where
    or : (a b c : Bool) → (a || (b || c)) ≡ ((a || b) || c)
    or true b c = refl
    or false b c = refl

-- `this` at a node
module _ (k f a : ℕ) (ts : Forest) where
  pub this-26 : k ≡ 26 → has_this (node k f a ts) ≡ true
  this-26 e = rw e refl

  pub this-shut : (k ≡ 39) ⊎ (k ≡ 7) → has_this (node k f a ts) ≡ false
  this-shut o = ⊎_elim (λ (e : k ≡ 39). rw e refl) (λ (e : k ≡ 7). rw e refl) o

  pub this-kids : (k ≡ 26 → ⊥) → (k ≡ 39 → ⊥) → (k ≡ 7 → ⊥) → has_this (node k f a ts) ≡ has_this_f ts
  this-kids d b c =
      ap (λ (p : Bool). elim p [ true ↦ true | false ↦ elim (eqb k 39 || eqb k 7) [ true ↦ false | false ↦ has_this_f ts ] ]) (ne_eqb k 26 d)
      ∙ ap (λ (p : Bool). elim p [ true ↦ false | false ↦ has_this_f ts ]) (ap (λ (p : Bool). p || eqb k 7) (ne_eqb k 39 b) ∙ ne_eqb k 7 c)

-- nodes of trees
pub count-some : (u : Tree) → 0 < count u
count-some (node k f a ts) = omega arith

mutual
  pub flat_append : (t : Tree) (xs : List Core) → flat t xs ≡ flat t [] ++ xs
  flat_append (node k f a ts) xs = ap (λ (l : List Core). core k f (length_f ts) a ∷ l) (flats-append ts xs)

  flats-append : (ts : Forest) (xs : List Core) → flats ts xs ≡ flats ts [] ++ xs
  flats-append nil xs = refl
  flats-append (cons t ts) xs =
      flat_append t (flats ts xs) ∙ ap (λ (l : List Core). flat t [] ++ l) (flats-append ts xs) ∙ sym (append_assoc (flat t []) (flats ts []) xs)
      ∙ ap (λ (l : List Core). l ++ xs) (sym (flat_append t (flats ts [])))

mutual
  pub length-flat : (t : Tree) (xs : List Core) → length (flat t xs) ≡ count t + length xs
  length-flat (node k f a ts) xs = omega (arith, length-flats ts xs)

  length-flats : (ts : Forest) (xs : List Core) → length (flats ts xs) ≡ counts ts + length xs
  length-flats nil xs = sym (zero-add (length xs))
  length-flats (cons t ts) xs = omega (arith, length-flat t (flats ts xs), length-flats ts xs)

pub trees-le : (xs : List Core) → length_f (plant xs) ≤ length xs
trees-le [] = omega arith
trees-le (x ∷ xs) = omega (arith, length-drop_f x.arity (plant xs), trees-le xs)

-- in a whole list, behind the first k trees
pub plant-behind : (k : ℕ) (xs : List Core) → Whole xs → plant (drop (counts (take_f k (plant xs))) xs) ≡ drop_f k (plant xs)
plant-behind k xs h =
    let ts = plant xs in
    ap (λ (l : List Core). plant (drop (counts (take_f k ts)) l)) (sym (flats-take-drop k ts [] ∙ unplant xs h))
    ∙ ap plant (drop-flats (take_f k ts) (flats (drop_f k ts) []))
    ∙ plant-flats (drop_f k ts) []
    ∙ append-nil (drop_f k ts)

-- one tree is a whole list of one tree, and back
pub one-whole : {xs : List Core} → One xs → Whole xs
one-whole {xs} o = rw o.is at (whole-flat (first_t (plant xs)) [] tt)

one-trees : {xs : List Core} → One xs → length_f (plant xs) ≡ 1
one-trees {xs} o = ap (λ (l : List Core). length_f (plant l)) (sym o.is) ∙ ap length_f (plant-flat (first_t (plant xs)) [])

one_of : (xs : List Core) → Whole xs → length_f (plant xs) ≡ 1 → One xs
one_of xs h e = record { is = go (plant xs) e ∙ unplant xs h }
  where
    go : (ts : Forest) → length_f ts ≡ 1 → flat (first_t ts) [] ≡ flats ts []
    go nil e = absurd (omega arith)
    go (cons t nil) e = refl
    go (cons t (cons u us)) e = absurd (omega arith)

-- another end with as many trees
trees-append : (p ys zs : List Core) → length_f (plant zs) ≡ length_f (plant ys) → length_f (plant (p ++ zs)) ≡ length_f (plant (p ++ ys))
trees-append [] ys zs e = e
trees-append (c ∷ p) ys zs e =
    ap suc (length-drop_f c.arity (plant (p ++ zs)) ∙ ap (λ (n : ℕ). n - c.arity) (trees-append p ys zs e) ∙ sym (length-drop_f c.arity (plant (p ++ ys))))

whole_append : (p ys zs : List Core) → length_f (plant zs) ≡ length_f (plant ys) → Whole zs → Whole (p ++ ys) → Whole (p ++ zs)
whole_append [] ys zs e h w = h
whole_append (c ∷ p) ys zs e h w = (rw (trees-append p ys zs e) w.0, whole_append p ys zs e h w.1)

one-append : (p ys zs : List Core) → length_f (plant zs) ≡ length_f (plant ys) → Whole zs → One (p ++ ys) → One (p ++ zs)
one-append p ys zs e h o = one_of (p ++ zs) (whole_append p ys zs e h (one-whole o)) (trees-append p ys zs e ∙ one-trees o)

-- the same tree in the walk's terms
pub tree-at-is : {S : Type 0} (st : Flat S) (i : ℕ) → tree_at st i ≡ tree_from st.nodes i
unfolding tree_at tree_from
tree-at-is st i = refl

module _ (xs : List Core) (i : ℕ) (l : i < length xs) where
  abbrev st : Flat (Unit {0})
  st = record { nodes = xs; rest = tt }

  abbrev t : Tree
  t = tree_from xs i

  abbrev post : List Core
  post = drop (i + count t) xs

  pub flat-from : Whole xs → flat t post ≡ drop i xs
  unfolding tree_from tree_at
  flat-from w = tree-nodes st i l w

  pub behind-le : Whole xs → i + count t ≤ length xs
  behind-le w = omega (arith, sym (ap length (flat-from w)) ∙ length-flat t post, length-drop i xs)

  split-here : Whole xs → take i xs ++ flat t post ≡ xs
  split-here w = ap (λ (l : List Core). take i xs ++ l) (flat-from w) ∙ take-append-drop i xs

  pub put_one : (e : Tree) → One xs → One (put_at xs i e)
  unfolding put_at
  put_one e o =
      let w = one-whole o in
      one-append (take i xs) (flat t post) (flat e post) (ap length_f (plant-flat e post) ∙ sym (ap length_f (plant-flat t post)))
      (whole-flat e post (whole_drop (i + count t) xs w)) (rw (split-here w) o)

-- a node's tree, by its children
module _ (xs : List Core) (i : ℕ) (l : i < length xs) where
  pub node-count : count (tree_from xs i) ≡ suc (counts (forest_from xs (get_or xs i no_core).arity (i + 1)))
  unfolding tree_from forest_from
  node-count = rw (drop-cons xs i no_core l, add-one) refl

  pub node-height : height (tree_from xs i) ≡ 1 + heights (forest_from xs (get_or xs i no_core).arity (i + 1))
  unfolding tree_from forest_from
  node-height = rw (drop-cons xs i no_core l, add-one) refl

-- a child's place, and the list without it
module _ {xs : List Core} {q m i : ℕ} (h : Child xs q m i) (w : Whole (drop q xs)) where
  abbrev c : Core
  c = get_or xs q no_core

  abbrev ts : Forest
  ts = plant (drop (q + 1) xs)

  from-parent : drop q xs ≡ c ∷ drop (q + 1) xs
  from-parent = rw add-one (drop-cons xs q no_core h.parent)

  at-parent : Whole (c ∷ drop (q + 1) xs)
  at-parent = rw from-parent at w

  begins : i ≡ q + 1 + counts (take_f m ts)
  unfolding forest_from
  begins = h.at

  left : length_f (drop_f m ts) ≡ length_f ts - m
  left = length-drop_f m ts

  rest_of : drop_f m ts ≡ cons (first_t (drop_f m ts)) (tail_f (drop_f m ts))
  rest_of = first_rest (drop_f m ts) (omega (arith, left, at-parent.0, h.few))

  child-is : tree_from xs i ≡ first_t (drop_f m ts)
  unfolding tree_from
  child-is = ap first_t (ap plant (ap (λ (n : ℕ). drop n xs) begins ∙ sym (drop-drop (counts (take_f m ts)) (q + 1) xs)) ∙ plant-behind m (drop (q + 1) xs) at-parent.1)

  abbrev u : Tree
  u = first_t (drop_f m ts)

  -- what stands behind the child
  abbrev z : List Core
  z = flats (tail_f (drop_f m ts)) []

  parts : drop (q + 1) xs ≡ flats (take_f m ts) (flat u z)
  parts = sym (ap (λ (us : Forest). flats (take_f m ts) (flats us [])) (sym rest_of) ∙ flats-take-drop m ts [] ∙ unplant (drop (q + 1) xs) at-parent.1)

  -- what stands before it
  abbrev p : List Core
  p = take q xs ++ (c ∷ flats (take_f m ts) [])

  long-p : length p ≡ i
  long-p = length-append (take q xs) (c ∷ flats (take_f m ts) []) ∙ omega (arith, length-take-le q xs (omega (arith, h.parent)), length-flats (take_f m ts) [], begins)

  joined : (ys : List Core) → p ++ ys ≡ take q xs ++ (c ∷ flats (take_f m ts) ys)
  joined ys = append_assoc (take q xs) (c ∷ flats (take_f m ts) []) ys ∙ ap (λ (l : List Core). take q xs ++ (c ∷ l)) (sym (flats-append (take_f m ts) ys))

  whole_of : xs ≡ p ++ flat u z
  whole_of = sym (joined (flat u z) ∙ ap (λ (l : List Core). take q xs ++ (c ∷ l)) (sym parts) ∙ ap (λ (l : List Core). take q xs ++ l) (sym from-parent) ∙ take-append-drop q xs)

  pub child-lt : (q < i) × (i < length xs)
  child-lt = (omega (arith, begins), omega (arith, ap length whole_of ∙ length-append p (flat u z), long-p, length-flat u z, count-some u))

  parent-count : count (tree_from xs q) ≡ suc (counts (take_f c.arity ts))
  unfolding forest_from
  parent-count = node-count xs q h.parent

  -- of the node's children: those before this one, this one and those behind it
  kids-are : take_f c.arity ts ≡ append_f (take_f m ts) (cons u (take_f (c.arity - m - 1) (tail_f (drop_f m ts))))
  kids-are =
      let n : c.arity ≡ m + suc (c.arity - m - 1) = omega (arith, h.few) in
      ap (λ (k : ℕ). take_f k ts) n ∙ take-add m (suc (c.arity - m - 1)) ts ∙ ap (λ (us : Forest). append_f (take_f m ts) (take_f (suc (c.arity - m - 1)) us)) rest_of

  pub child-in : i + count (tree_from xs i) ≤ q + count (tree_from xs q)
  child-in = rw child-is (omega (arith, begins, parent-count, ap counts kids-are ∙ counts-append (take_f m ts) (cons u (take_f (c.arity - m - 1) (tail_f (drop_f m ts))))))

  -- as a loop over the children sees it
  pub child-whole : Whole (drop i xs)
  child-whole = rw begins (rw (drop-drop (counts (take_f m ts)) (q + 1) xs) at (whole_drop (counts (take_f m ts)) (drop (q + 1) xs) at-parent.1))

  pub child-next : forest_from xs (m + 1) (q + 1) ≡ append_f (forest_from xs m (q + 1)) (cons (tree_from xs i) nil)
  unfolding forest_from
  child-next = take-add m 1 ts ∙ ap (λ (us : Forest). append_f (take_f m ts) (take_f 1 us)) rest_of ∙ ap (λ (t : Tree). append_f (take_f m ts) (cons t nil)) (sym child-is)

  pub child-high : height (tree_from xs i) ≤ heights (forest_from xs c.arity (q + 1))
  unfolding forest_from
  child-high = rw child-is (omega (arith, ap heights kids-are ∙ heights-append (take_f m ts) (cons u (take_f (c.arity - m - 1) (tail_f (drop_f m ts))))))

  cut-is : cut_at xs q i ≡ take q xs ++ (re_arity (c.arity - 1) c ∷ flats (take_f m ts) z)
  unfolding cut_at
  cut-is =
      let front : take i xs ≡ p = ap (take i) whole_of ∙ take_at p (flat u z) i long-p in
      let back : drop (i + count u) xs ≡ z = ap (drop (i + count u)) whole_of ∙ rw (← long-p) (drop-append-add p (flat u z) (count u)) ∙ drop-flat u z in
      rw (child-is, front, back, joined z) (set_at (take q xs) c (flats (take_f m ts) z) (re_arity (c.arity - 1) c) q (length-take-le q xs (omega (arith, h.parent))))

  pub cut-one : One xs → One (cut_at xs q i)
  cut-one o =
      let tz : plant z ≡ tail_f (drop_f m ts) = plant-flats (tail_f (drop_f m ts)) [] ∙ append-nil (tail_f (drop_f m ts)) in
      let n : length_f (plant (flats (take_f m ts) z)) ≡ length_f ts - 1 =
      ap length_f (plant-flats (take_f m ts) z) ∙ length-append_f (take_f m ts) (plant z) ∙ omega (arith, length-take_f m ts (omega (arith, h.few, at-parent.0)), ap length_f tz, left, ap length_f rest_of, at-parent.0, h.few) in
      rw cut-is (one-append (take q xs) (c ∷ drop (q + 1) xs) (re_arity (c.arity - 1) c ∷ flats (take_f m ts) z)
      (ap suc (length-drop_f (c.arity - 1) (plant (flats (take_f m ts) z)) ∙ omega (arith, h.few, at-parent.0) ∙ sym (length-drop_f c.arity ts)))
      (omega (arith, h.few, at-parent.0), whole-flats (take_f m ts) z (whole-flats (tail_f (drop_f m ts)) [] tt))
      (rw (ap (λ (l : List Core). take q xs ++ l) (sym from-parent) ∙ take-append-drop q xs) o))

-- whole, in the contracts' terms
pub trees-whole : {xs : List Core} → Trees xs → Whole xs
trees-whole {xs} h = rw h.are at (whole-flats (plant xs) [] tt)

pub whole-trees : (xs : List Core) → Whole xs → Trees xs
whole-trees xs h = record { are = unplant xs h }

-- Loops over the nodes of a tree: with a count of trees still open, to the tree's end or in search of `this`; and over a node's children,
-- their heights measured. Assumes nothing.
use mathlib.Core.Path.{◌≡◌, refl, sym, ap, ◌∙◌}
use mathlib.Core.List.{List, ◌∷◌}
use mathlib.Core.Bool.{Bool, true, false, ◌||◌}
use mathlib.Core.Logic.{◌⊎◌}
use Prim.Native.Nat.{ℕ, suc, ◌+◌, ◌-◌, ◌≤◌, ◌<◌}
use native.Mathlib.Numerals.{add-one}
use native.Mathlib.Omega.{arith}
use lib.ListN.{length, get_or, drop, length-drop}
use lib.Seq.{drop-cons, drop-drop}
use Rattle.def_tree.specs.Tree.{Forest, node, nil, cons, length_f, count, counts, Core, no_core, take_f, drop_f, plant, first_t}
use Rattle.def_tree.proofs.Place.{append_f}
use Rattle.def_tree.proofs.Whole.{Whole, whole_drop, length-drop_f}
use Rattle.def_pass.specs.Tree.{height, heights, has_this, has_this_f}
use Rattle.words_nodes.specs.Nodes.{tree_from, forest_from, Child}
use Rattle.words_nodes.proofs.Trees.{take-add, counts-append, heights-append, this-append, this-26, this-shut, this-kids, trees-le, plant-behind, node-count, node-height, child-next, child-high}

-- a loop to the end of n trees, from the node at `at` on
pub record Open (xs : List Core) (at n : ℕ) : Type 0 where
  pub trees : n ≤ length_f (plant (drop at xs))

pub open-first : (xs : List Core) (i : ℕ) → i < length xs → Open xs i 1
open-first xs i l = record { trees = rw (drop-cons xs i no_core l) (omega arith) }

pub forest-first : (xs : List Core) (i : ℕ) → i < length xs → forest_from xs 1 i ≡ cons (tree_from xs i) nil
unfolding forest_from tree_from
forest-first xs i l = rw (drop-cons xs i no_core l) refl

pub open-le : {xs : List Core} {at n : ℕ} → Open xs at n → n ≤ length xs
open-le {xs} {at} o = omega (arith, trees-le (drop at xs), length-drop at xs)

module _ {xs : List Core} (w : Whole xs) {at n : ℕ} (o : Open xs at n) (z : 0 < n) where
  abbrev x : Core
  x = get_or xs at no_core

  abbrev us : Forest
  us = plant (drop (at + 1) xs)

  pub open-here : at < length xs
  open-here = omega (arith, trees-le (drop at xs), length-drop at xs)

  here : drop at xs ≡ x ∷ drop (at + 1) xs
  here = rw add-one (drop-cons xs at no_core open-here)

  pub open_in : Open xs (at + 1) (n - 1 + x.arity)
  open_in =
      let e : n ≤ length_f (plant (x ∷ drop (at + 1) xs)) = rw here at o.trees in
      let q : Whole (x ∷ drop (at + 1) xs) = rw here at (whole_drop at xs w) in
      record { trees = omega (arith, length-drop_f x.arity us, q.0) }

  pub forest-here : forest_from xs n at ≡ cons (node x.kind x.form x.num (take_f x.arity us)) (take_f (n - 1) (drop_f x.arity us))
  unfolding forest_from
  forest-here = let e : n ≡ suc (n - 1) = omega arith in ap (λ (k : ℕ). take_f k (plant (drop at xs))) e ∙ rw here refl

  pub forest-next : forest_from xs (n - 1 + x.arity) (at + 1) ≡ append_f (take_f x.arity us) (take_f (n - 1) (drop_f x.arity us))
  unfolding forest_from
  forest-next = let e : n - 1 + x.arity ≡ x.arity + (n - 1) = omega arith in rw e (take-add x.arity (n - 1) us)

  pub counts-in : counts (forest_from xs n at) ≡ suc (counts (forest_from xs (n - 1 + x.arity) (at + 1)))
  counts-in = rw (forest-here, forest-next, counts-append (take_f x.arity us) (take_f (n - 1) (drop_f x.arity us))) (omega arith)

  this-here : has_this_f (forest_from xs n at) ≡ (has_this (node x.kind x.form x.num (take_f x.arity us)) || has_this_f (take_f (n - 1) (drop_f x.arity us)))
  this-here = ap has_this_f forest-here

  abbrev others : Bool
  others = has_this_f (take_f (n - 1) (drop_f x.arity us))

  pub this-found : x.kind ≡ 26 → has_this_f (forest_from xs n at) ≡ true
  this-found e = this-here ∙ ap (λ (b : Bool). b || others) (this-26 x.kind x.form x.num (take_f x.arity us) e)

  pub this-in : (x.kind ≡ 26 → ⊥) → (x.kind ≡ 39 → ⊥) → (x.kind ≡ 7 → ⊥) → has_this_f (forest_from xs n at) ≡ has_this_f (forest_from xs (n - 1 + x.arity) (at + 1))
  this-in d a b =
      this-here ∙ ap (λ (b : Bool). b || others) (this-kids x.kind x.form x.num (take_f x.arity us) d a b)
      ∙ sym (ap has_this_f forest-next ∙ this-append (take_f x.arity us) (take_f (n - 1) (drop_f x.arity us)))

  -- behind the tree at `at`
  abbrev next : ℕ
  next = at + count (tree_from xs at)

  behind : plant (drop next xs) ≡ drop_f 1 (plant (drop at xs))
  unfolding tree_from
  behind =
      let e : counts (take_f 1 (plant (drop at xs))) ≡ count (first_t (plant (drop at xs))) = rw here (omega arith) in
      ap plant (sym (drop-drop (count (first_t (plant (drop at xs)))) at xs) ∙ ap (λ (k : ℕ). drop k (drop at xs)) (sym e)) ∙ plant-behind 1 (drop at xs) (whole_drop at xs w)

  pub open-past : Open xs next (n - 1)
  open-past = record { trees = rw behind (omega (arith, length-drop_f 1 (plant (drop at xs)))) }

  pub forest-past : forest_from xs (n - 1) next ≡ take_f (n - 1) (drop_f x.arity us)
  unfolding forest_from
  forest-past = ap (take_f (n - 1)) (behind ∙ rw here refl)

  pub this-past : (x.kind ≡ 26 → ⊥) → (x.kind ≡ 39) ⊎ (x.kind ≡ 7) → has_this_f (forest_from xs n at) ≡ has_this_f (forest_from xs (n - 1) next)
  this-past d o = this-here ∙ ap (λ (b : Bool). b || others) (this-shut x.kind x.form x.num (take_f x.arity us) o) ∙ ap has_this_f (sym forest-past)

-- from the tree at i to the node at `at`, with n trees open
pub record Passed (xs : List Core) (i at n : ℕ) : Type 0 where
  pub still : Open xs at n
  pub ends : at + counts (forest_from xs n at) ≡ i + count (tree_from xs i)

pub passed_none : (xs : List Core) (i : ℕ) → i < length xs → Passed xs i i 1
passed_none xs i l = record { still = open-first xs i l; ends = rw (forest-first xs i l) (omega arith) }

pub passed-more : {xs : List Core} {i at n a : ℕ} → Whole xs → Passed xs i at n → 0 < n → a ≡ (get_or xs at no_core).arity → Passed xs i (at + 1) (n - 1 + a)
passed-more w p z e = rw e (record { still = open_in w p.still z; ends = omega (arith, p.ends, counts-in w p.still z) })

pub passed-all : {xs : List Core} {i at n : ℕ} → n ≡ 0 → Passed xs i at n → at ≡ i + count (tree_from xs i)
unfolding forest_from
passed-all {xs} {at = at} {n = n} z p = let q = p.ends in let e : counts (take_f n (plant (drop at xs))) ≡ 0 = rw z refl in omega arith

-- a search for `this` in the tree at i has come to the node at `at`, with n trees open
pub record Sought (xs : List Core) (i at n : ℕ) : Type 0 where
  pub still : Open xs at n
  pub same : has_this (tree_from xs i) ≡ has_this_f (forest_from xs n at)

pub sought-none : (xs : List Core) (i : ℕ) → i < length xs → Sought xs i i 1
sought-none xs i l = record { still = open-first xs i l; same = rw (forest-first xs i l) (or (has_this (tree_from xs i))) }
  where
    or : (b : Bool) → b ≡ (b || false)
    or true = refl
    or false = refl

pub sought-all : {xs : List Core} {i at n : ℕ} → n ≡ 0 → Sought xs i at n → false ≡ has_this (tree_from xs i)
unfolding forest_from
sought-all {xs} {at = at} {n = n} z s = let e : has_this_f (take_f n (plant (drop at xs))) ≡ false = rw z refl in sym (s.same ∙ e)

module _ {xs : List Core} (w : Whole xs) {i at n k : ℕ} (s : Sought xs i at n) (z : 0 < n) (e : k ≡ (get_or xs at no_core).kind) where
  pub sought-found : k ≡ 26 → true ≡ has_this (tree_from xs i)
  sought-found q = sym (s.same ∙ this-found w s.still z (sym e ∙ q))

  module _ (d : k ≡ 26 → ⊥) where
    pub sought-past : (k ≡ 39) ⊎ (k ≡ 7) → {r : ℕ} → r ≡ at + count (tree_from xs at) → Sought xs i r (n - 1)
    sought-past o q = rw q (record {
      still = open-past w s.still z;
      same = s.same ∙ this-past w s.still z (λ x. d (e ∙ x)) (rw e at o);
    })

    pub sought-in : (k ≡ 39 → ⊥) → (k ≡ 7 → ⊥) → {a : ℕ} → a ≡ (get_or xs at no_core).arity → Sought xs i (at + 1) (n - 1 + a)
    sought-in b c q = rw q (record {
      still = open_in w s.still z;
      same = s.same ∙ this-in w s.still z (λ x. d (e ∙ x)) (λ x. b (e ∙ x)) (λ x. c (e ∙ x));
    })

-- of the children of the node at i, k are at most h high and end at j
pub record Measuring (xs : List Core) (i h k j : ℕ) : Type 0 where
  pub few : k ≤ (get_or xs i no_core).arity
  pub next : j ≡ i + 1 + counts (forest_from xs k (i + 1))
  pub low : heights (forest_from xs k (i + 1)) ≤ h

pub measuring-none : (xs : List Core) (i h : ℕ) → Measuring xs i h 0 (i + 1)
unfolding forest_from
measuring-none xs i h = record { few = omega arith; next = omega arith; low = omega arith }

module _ {xs : List Core} {i h k j : ℕ} (l : i < length xs) (m : Measuring xs i h k j) where
  pub measuring-all : k ≡ (get_or xs i no_core).arity → (j ≡ i + count (tree_from xs i)) × (height (tree_from xs i) ≤ h + 1)
  measuring-all e =
      let a : counts (forest_from xs k (i + 1)) ≡ counts (forest_from xs (get_or xs i no_core).arity (i + 1)) = rw e refl in
      let b : heights (forest_from xs k (i + 1)) ≡ heights (forest_from xs (get_or xs i no_core).arity (i + 1)) = rw e refl in
      (omega (arith, node-count xs i l, m.next), omega (arith, node-height xs i l, m.low))

  module _ (few : k < (get_or xs i no_core).arity) (w : Whole (drop i xs)) where
    pub measuring-child : Child xs i k j
    measuring-child = record { parent = l; few = few; at = m.next }

    pub measuring-more : {e : ℕ} → e ≡ j + count (tree_from xs j) → height (tree_from xs j) ≤ h → Measuring xs i h (k + 1) e
    measuring-more q b =
        let n = child-next measuring-child w in record {
          few = omega arith;
          next = omega (arith, m.next, ap counts n ∙ counts-append (forest_from xs k (i + 1)) (cons (tree_from xs j) nil));
          low = omega (arith, m.low, ap heights n ∙ heights-append (forest_from xs k (i + 1)) (cons (tree_from xs j) nil));
        }

    pub measuring-over : h < height (tree_from xs j) → h + 1 < height (tree_from xs i)
    measuring-over b = omega (arith, node-height xs i l, child-high measuring-child w)

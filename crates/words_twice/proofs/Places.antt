-- Trees in the list of nodes, one after the other. Assumes nothing.
use mathlib.Core.Path.{◌≡◌, refl, sym, ap, ap₂, ◌∙◌}
use mathlib.Core.List.{List, [], ◌∷◌, ◌++◌}
use Prim.Native.Nat.{ℕ, zero, suc, ◌+◌, ◌-◌, ◌≤◌, ◌<◌}
use native.Mathlib.Nat.{zero-add}
use native.Mathlib.Numerals.{add-one}
use native.Mathlib.Omega.{arith}
use lib.ListN.{length, get_or, take, drop, take-append-drop, length-drop}
use lib.Seq.{drop-cons, drop-drop}
use Rattle.def_tree.specs.Tree.{Tree, Forest, node, nil, cons, count, counts, Core, no_core, flats, take_f, drop_f, plant}
use Rattle.def_tree.proofs.Place.{append_f, drop-flats}
use Rattle.def_tree.proofs.Whole.{Whole, whole_drop, flats-take-drop, unplant}
use Rattle.words_nodes.specs.Nodes.{tree_from, forest_from}
use Rattle.words_nodes.proofs.Loops.{Open, forest-here, forest-next, forest-past, open-here}
use Rattle.words_twice.specs.Twice.{Stand}

-- a tree by its node and its children
pub tree_is : (xs : List Core) (j : ℕ) → j < length xs → tree_from xs j ≡ node (get_or xs j no_core).kind (get_or xs j no_core).form (get_or xs j no_core).num (forest_from xs (get_or xs j no_core).arity (j + 1))
unfolding tree_from forest_from
tree_is xs j l = rw (drop-cons xs j no_core l, add-one) refl

pub forest-none : (xs : List Core) (j : ℕ) → forest_from xs 0 j ≡ nil
unfolding forest_from
forest-none xs j = refl

module _ {xs : List Core} (w : Whole xs) {at n : ℕ} (o : Open xs at n) (z : 0 < n) where
  abbrev x : Core
  x = get_or xs at no_core

  abbrev next : ℕ
  next = at + count (tree_from xs at)

  -- the first of n trees, and those behind it
  pub forest-cons : forest_from xs n at ≡ cons (tree_from xs at) (forest_from xs (n - 1) next)
  unfolding forest_from
  forest-cons = forest-here w o z ∙ ap₂ {C = Forest} (λ (t : Tree) (ts : Forest). cons t ts) (sym (tree_is xs at (open-here w o z))) (sym (forest-past w o z))

  -- its children, and those behind it
  pub forest-in : forest_from xs (n - 1 + x.arity) (at + 1) ≡ append_f (forest_from xs x.arity (at + 1)) (forest_from xs (n - 1) next)
  unfolding forest_from
  forest-in = forest-next w o z ∙ ap (append_f (take_f x.arity (plant (drop (at + 1) xs)))) (sym (forest-past w o z))

-- nodes counted
pub counts-take-drop : (n : ℕ) (ts : Forest) → counts (take_f n ts) + counts (drop_f n ts) ≡ counts ts
counts-take-drop zero ts = zero-add (counts ts)
counts-take-drop (suc n) nil = refl
counts-take-drop (suc n) (cons t ts) = omega (arith, counts-take-drop n ts)

counts-plant : (xs : List Core) → counts (plant xs) ≡ length xs
counts-plant [] = refl
counts-plant (x ∷ xs) = omega (arith, counts-take-drop x.arity (plant xs), counts-plant xs)

pub counts-forest : (xs : List Core) (n i : ℕ) → counts (forest_from xs n i) ≤ length xs
unfolding forest_from
counts-forest xs n i = omega (arith, counts-take-drop n (plant (drop i xs)), counts-plant (drop i xs), length-drop i xs)

-- the trees in their place
pub split-trees : (xs : List Core) (n i : ℕ) → Whole xs → take i xs ++ flats (forest_from xs n i) (drop (i + counts (forest_from xs n i)) xs) ≡ xs
unfolding forest_from
split-trees xs n i w = ap (λ (ys : List Core). take i xs ++ ys) (ap (flats (take_f n (plant (drop i xs)))) (sym (drop-drop (counts (take_f n (plant (drop i xs)))) i xs)) ∙ go (drop i xs) (whole_drop i xs w)) ∙ take-append-drop i xs
  where
    go : (ys : List Core) → Whole ys → flats (take_f n (plant ys)) (drop (counts (take_f n (plant ys))) ys) ≡ ys
    go ys h =
        let e : flats (take_f n (plant ys)) (flats (drop_f n (plant ys)) []) ≡ ys = flats-take-drop n (plant ys) [] ∙ unplant ys h in
        ap (λ (zs : List Core). flats (take_f n (plant ys)) (drop (counts (take_f n (plant ys))) zs)) (sym e) ∙ ap (flats (take_f n (plant ys))) (drop-flats (take_f n (plant ys)) (flats (drop_f n (plant ys)) [])) ∙ e

pub stand-open : {xs : List Core} {i n : ℕ} → Stand xs i n → Open xs i n
stand-open s = record { trees = s.trees }

pub open-stand : {xs : List Core} {i n : ℕ} → i ≤ length xs → Open xs i n → Stand xs i n
open-stand l o = record { inside = l; trees = o.trees }

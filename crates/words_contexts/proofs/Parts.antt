-- Trees in the list of nodes, in two parts. Assumes nothing.
use mathlib.Core.Path.{◌≡◌, sym, ap, ◌∙◌}
use mathlib.Core.List.{List}
use Prim.Native.Nat.{ℕ, ◌+◌, ◌-◌, ◌≤◌}
use native.Mathlib.Omega.{arith}
use lib.ListN.{length, drop, length-drop}
use lib.Seq.{drop-drop}
use Rattle.def_tree.specs.Tree.{Forest, length_f, counts, Core, take_f, drop_f, plant}
use Rattle.def_tree.proofs.Place.{append_f}
use Rattle.def_tree.proofs.Whole.{Whole, whole_drop, length-take_f, length-drop_f}
use Rattle.words_nodes.specs.Nodes.{forest_from}
use Rattle.words_nodes.proofs.Loops.{Open}
use Rattle.words_nodes.proofs.Trees.{take-add, plant-behind}
use Rattle.words_twice.specs.Twice.{Stand}
use Rattle.words_twice.proofs.Places.{counts-forest}

pub forest-length : {xs : List Core} {i n : ℕ} → Open xs i n → length_f (forest_from xs n i) ≡ n
unfolding forest_from
forest-length {xs} {i} {n} o = length-take_f n (plant (drop i xs)) o.trees

module _ {xs : List Core} (w : Whole xs) {i n m : ℕ} (s : Stand xs i n) (few : m ≤ n) where
  abbrev us : Forest
  us = forest_from xs m i

  abbrev behind : ℕ
  behind = i + counts us

  pub first-stand : Stand xs i m
  first-stand = record { inside = s.inside; trees = omega (arith, few, s.trees) }

  rest-is : plant (drop behind xs) ≡ drop_f m (plant (drop i xs))
  unfolding forest_from
  rest-is = ap plant (sym (drop-drop (counts us) i xs)) ∙ plant-behind m (drop i xs) (whole_drop i xs w)

  counts-first : counts us ≤ length (drop i xs)
  unfolding forest_from
  counts-first = counts-forest (drop i xs) m 0

  pub rest-stand : Stand xs behind (n - m)
  rest-stand = record {
    inside = omega (arith, s.inside, counts-first, length-drop i xs);
    trees = omega (arith, ap length_f rest-is, length-drop_f m (plant (drop i xs)), s.trees);
  }

  pub two-parts : forest_from xs n i ≡ append_f us (forest_from xs (n - m) behind)
  unfolding forest_from
  two-parts =
      (let e : n ≡ m + (n - m) = omega (arith, few) in ap (λ (k : ℕ). take_f k (plant (drop i xs))) e) ∙ take-add m (n - m) (plant (drop i xs))
      ∙ ap (λ (ts : Forest). append_f us (take_f (n - m) ts)) (sym rest-is)

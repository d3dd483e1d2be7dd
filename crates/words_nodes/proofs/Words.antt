-- The tree's nodes and the words that they stand in. Assumes nothing.
use mathlib.Core.Path.{◌≡◌, refl, sym, ap, ◌∙◌}
use mathlib.Core.List.{List}
use Prim.Native.Nat.{ℕ, ◌+◌, ◌*◌, ◌≤◌, ◌<◌}
use native.Mathlib.Omega.{arith}
use lib.ListN.{length, get_or, drop, length-drop}
use lib.Seq.{get_or-drop, ext_get_or}
use Rattle.def_tree.specs.Tree.{count, Core, no_core, plant, first_t}
use Rattle.def_tree.proofs.Whole.{Whole}
use Rattle.words.specs.Tab.{tab-ext}
use Rattle.words.specs.Layout.{core_from, node_of, run, tree}
use Rattle.words.proofs.Nodes.{tree-length, tree-at, run-at, run_length}
use Rattle.words_nodes.specs.Nodes.{tree_from, Planted}
use Rattle.words_nodes.proofs.Loops.{Open, open-here, open-le}
use Rattle.words_nodes.proofs.Trees.{one-whole, behind-le, count-some}

pub tree-whole : {w : List ℕ} → Planted w → Whole (tree w)
tree-whole g = one-whole g.one

-- a node of the tree, while trees are open
module _ {w : List ℕ} (g : Planted w) {at n : ℕ} (o : Open (tree w) at n) (z : 0 < n) where
  pub in_tree : at < get_or w 0 0
  in_tree = rw tree-length at (open-here (tree-whole g) o z)

  pub few-open : n ≤ 1024
  few-open = let l : n ≤ get_or w 0 0 = rw tree-length at (open-le o) in omega (arith, g.good.nodes)

  pub node-here : node_of w at ≡ get_or (tree w) at no_core
  node-here = sym (tree-at w at in_tree)

-- the end of the tree at i
pub skipped : {w : List ℕ} → Planted w → {i r : ℕ} → i < get_or w 0 0 → r ≡ i + count (tree_from (tree w) i) → (r ≡ i + count (tree_from (tree w) i)) × (i < r) × (r ≤ get_or w 0 0)
skipped {w} g {i} l e =
    let b : i + count (tree_from (tree w) i) ≤ get_or w 0 0 = rw tree-length at (behind-le (tree w) i (rw tree-length l) (tree-whole g)) in
    (e, omega (arith, count-some (tree_from (tree w) i)), omega arith)

-- a node of a store
module _ (w : List ℕ) (base n : ℕ) where
  pub store_at : (j : ℕ) → j < n → get_or (run w base 0 n) j no_core ≡ core_from w (base + j * 2)
  store_at j l = run-at w base 0 n j l ∙ ap (λ (k : ℕ). core_from w (base + k * 2)) (omega arith)

  pub store_length : length (run w base 0 n) ≡ n
  store_length = run_length w base 0 n

  -- the nodes from one on
  pub store-drop : (at m : ℕ) → n ≡ at + m → drop at (run w base 0 n) ≡ run w base at m
  store-drop at m e =
      ext_get_or no_core (drop at (run w base 0 n)) (run w base at m) (length-drop at (run w base 0 n) ∙ omega (arith, store_length, run_length w base at m))
      (λ j l. let q : j < m = omega (arith, length-drop at (run w base 0 n), store_length) in get_or-drop at (run w base 0 n) j no_core ∙ store_at (at + j) (omega arith) ∙ sym (run-at w base at m j q))

  pub store-tree : (at m : ℕ) → n ≡ at + m → tree_from (run w base 0 n) at ≡ first_t (plant (run w base at m))
  unfolding tree_from
  store-tree at m e = ap (λ (l : List Core). first_t (plant l)) (store-drop at m e)

-- the tree as a store
pub tree-run : (w : List ℕ) → run w 16 0 (get_or w 0 0) ≡ tree w
unfolding run tree
tree-run w = tab-ext (get_or w 0 0) (λ j. core_from w (16 + (0 + j) * 2)) (λ k. node_of w k) (λ j l. let e : 0 + j ≡ j = omega arith in rw e refl)

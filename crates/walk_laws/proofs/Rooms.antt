-- Where trees begin: the children of a node, and what stands behind a tree that was walked. Assumes nothing.
use Rattle.std.proofs.Common.{Ok}
use mathlib.Core.Path.{◌≡◌, refl, sym, ap, ◌∙◌, subst}
use mathlib.Core.List.{List, [], ◌∷◌}
use native.Mathlib.Numerals.{add-one}
use Prim.Native.Nat.{ℕ, suc, ◌+◌, ◌≤◌, ◌<◌}
use native.Mathlib.Omega.{arith}
use lib.ListN.{length, get_or, drop, length-drop}
use lib.Seq.{drop-cons, drop-drop}
use Rattle.def_tree.specs.Tree.{Tree, Forest, Core, no_core, length_f, counts, plant, take_f}
use Rattle.def_tree.specs.Combine.{M, forest_at, Walk, Walks, many}
use Rattle.def_tree.proofs.Sims.{Sim, SimF, sim-each}
use Rattle.def_tree.proofs.Whole.{Whole, whole_drop, length-drop_f}
use Rattle.words.specs.Layout.{tree, node_of}
use Rattle.words.proofs.Nodes.{tree-length, tree-at}
use Rattle.def_pass.specs.Walk.{St}
use Rattle.words_nodes.specs.Nodes.{Planted}
use Rattle.words_nodes.proofs.Trees.{one-whole, plant-behind, trees-le}
use Rattle.walk_laws.specs.Shape.{Room}
use Rattle.walk_laws.proofs.Shapes.{shape-trees}
use Rattle.words_state.specs.State.{abs}
use Rattle.walk_laws.specs.Did.{Did}

pub whole_of : {w : List ℕ} → Planted w → Whole (tree w)
whole_of g = one-whole g.one

-- a node is a tree's first, and its children begin behind it
some-trees : (xs : List Core) → 0 < length xs → 0 < length_f (plant xs)
some-trees [] h = absurd (omega arith)
some-trees (x ∷ xs) h = omega arith

pub room-one : {w : List ℕ} {i : ℕ} → Planted w → i < get_or w 0 0 → Room (tree w) 1 i
room-one {w} {i} g h = record { low = omega (arith, tree-length w); trees = some-trees (drop i (tree w)) (simp length-drop (omega (arith, tree-length w))) }

kids-room : (xs : List Core) (i : ℕ) → Whole xs → i < length xs → (get_or xs i no_core).arity ≤ length_f (plant (drop (i + 1) xs))
kids-room xs i w h = go (drop i xs) refl (whole_drop i xs w)
  where
    go : (ys : List Core) → drop i xs ≡ ys → Whole ys → (get_or xs i no_core).arity ≤ length_f (plant (drop (i + 1) xs))
    go [] e v = absurd (omega (arith, simp length-drop at (ap length e)))
    go (y ∷ ys) e v =
        let same = sym e ∙ drop-cons xs i no_core h in
        let head : y ≡ get_or xs i no_core = cc in
        let tail : ys ≡ drop (suc i) xs = cc in
        subst (λ (zs : List Core). (get_or xs i no_core).arity ≤ length_f (plant zs)) (tail ∙ ap (λ (m : ℕ). drop m xs) (sym (add-one i))) (subst (λ (c : Core). c.arity ≤ length_f (plant ys)) head v.0)

pub room-kids : {w : List ℕ} {i : ℕ} → Planted w → i < get_or w 0 0 → Room (tree w) (node_of w i).arity (i + 1)
room-kids {w} {i} g h = record { low = omega (arith, tree-length w); trees = subst (λ (c : Core). c.arity ≤ length_f (plant (drop (i + 1) (tree w)))) (tree-at w i h) (kids-room (tree w) i (whole_of g) (omega (arith, tree-length w))) }

-- fewer trees begin there too; and where some tree begins there is a node
pub room-less : {xs : List Core} {n m i : ℕ} → m ≤ n → Room xs n i → Room xs m i
room-less l r = record { low = r.low; trees = omega (arith, r.trees) }

pub room-node : (w : List ℕ) {n i : ℕ} → 0 < n → Room (tree w) n i → i < get_or w 0 0
room-node w {n} {i} h r = omega (arith, r.low, r.trees, trees-le (drop i (tree w)), length-drop i (tree w), tree-length w)

-- behind n of n + m trees that were walked, m trees begin
module _ {f : Forest → M St Forest} {g : Walks St} (h : SimF f g) {w u : List ℕ} {n m i j : ℕ} (P : Planted w) (r : Room (tree w) (n + m) i) where
  pub room-behind : Did w u (Ok j) (g n i (abs w)) → Room (tree u) m j
  unfolding forest_at
  room-behind d =
      let s = shape-trees h (abs w) n i (whole_of P) (room-less (omega arith) r) d.is in
      record { low = s.inside.1; trees = rw (s.back ∙ sym (drop-drop (counts (take_f n (plant (drop i (tree w))))) i (tree w)), plant-behind n (drop i (tree w)) (whole_drop i (tree w) (whole_of P)), length-drop_f) (omega (arith, r.trees)) }

-- and behind one
module _ {f : Tree → M St Tree} {g : Walk St} (h : Sim f g) {w u : List ℕ} {m i j : ℕ} (P : Planted w) (r : Room (tree w) (suc m) i) where
  pub room_next : Did w u (Ok j) (g i (abs w)) → Room (tree u) m j
  unfolding many
  room_next d = room-behind (sim-each h) P (subst (λ (k : ℕ). Room (tree w) k i) (plus m) r) d
    where
      plus : (m : ℕ) → suc m ≡ 1 + m
      plus m = omega arith

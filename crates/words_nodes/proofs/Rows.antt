-- Rows 8 and 9 of a replacement, and the definition's `replace` by them. Assumes nothing.
use mathlib.Core.Path.{◌≡◌, refl, ap}
use mathlib.Core.Bool.{Bool, true, false}
use Prim.Native.Nat.{ℕ, ◌+◌, ◌-◌, ◌≤◌, ◌<◌}
use native.Mathlib.Omega.{arith}
use borrow.Author.Tests.{lt-ltb, le-ltb}
use lib.Dec.{ltb}
use Rattle.def_tree.specs.Base.{pick}
use Rattle.def_tree.specs.Tree.{Tree, count}
use Rattle.def_tree.specs.Combine.{Res, stop, done, Nothing}
use Rattle.def_pass.specs.Tree.{height}
use Rattle.def_pass.specs.Walk.{St, set_nodes, replace}
use Rattle.words_nodes.specs.Nodes.{refusal}

module _ (p n : ℕ) (old new : Tree) where
  abbrev size : ℕ
  size = n + count new - count old

  pub row-8 : 201 < p + height new → refusal p n old new ≡ 8
  row-8 h = rw (lt-ltb 201 (p + height new) h) refl

  module _ (h : p + height new ≤ 201) where
    pub row-9 : 1024 < size → refusal p n old new ≡ 9
    row-9 l = rw (le-ltb 201 (p + height new) h, lt-ltb 1024 size l) refl

    pub row-0 : size ≤ 1024 → refusal p n old new ≡ 0
    row-0 l = rw (le-ltb 201 (p + height new) h, le-ltb 1024 size l) refl

module _ (p : ℕ) (old new : Tree) (s : St) where
  abbrev after : ℕ
  after = s.nodes + count new - count old

  abbrev outcome : Bool → Bool → Res St Nothing
  outcome a b = elim a [ true ↦ stop 8 | false ↦ elim b [ true ↦ stop 9 | false ↦ done (set_nodes after s) tt ] ]

  pub replace-done : refusal p s.nodes old new ≡ 0 → replace p old new s ≡ done (set_nodes after s) tt
  replace-done e = go (ltb 201 (p + height new)) (ltb 1024 after) e
    where
      go : (a b : Bool) → ◌≡◌ {A = ℕ} (pick a 8 (pick b 9 0)) 0 → outcome a b ≡ done (set_nodes after s) tt
      go true b e = absurd (omega arith)
      go false true e = absurd (omega arith)
      go false false e = refl

  pub replace-stop : (m : ℕ) → 0 < m → refusal p s.nodes old new ≡ m → replace p old new s ≡ stop m
  replace-stop m z e = go (ltb 201 (p + height new)) (ltb 1024 after) e
    where
      go : (a b : Bool) → pick a 8 (pick b 9 0) ≡ m → outcome a b ≡ stop m
      go true b e = ap stop e
      go false true e = ap stop e
      go false false e = absurd (omega arith)

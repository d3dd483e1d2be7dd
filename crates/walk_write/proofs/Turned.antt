-- A node with another kind and form, and back. Assumes nothing.
use mathlib.Core.Path.{◌≡◌, refl, sym, ap, ◌∙◌}
use mathlib.Core.List.{List, ◌∷◌, ◌++◌}
use mathlib.Core.Bool.{Bool, true, false}
use mathlib.Core.Logic.{◌⊎◌}
use Prim.Native.Nat.{ℕ, suc, ◌+◌, ◌<◌}
use native.Mathlib.Omega.{arith}
use borrow.Author.Tests.{eqb-true, eqb-false}
use lib.Dec.{eqb}
use lib.ListN.{length, get_or, take, drop, set, length-set}
use lib.Seq.{set_split, drop-cons, drop_at, length-take-le, get_or-set_same, get_or-set_other, set-set, set-get_or}
use Rattle.def_tree.specs.Tree.{Tree, node, length_f, count, Core, core, no_core, flat, flats, plant, first_t}
use Rattle.def_tree.proofs.Place.{plant-flat}
use Rattle.def_tree.proofs.Whole.{Whole}
use Rattle.def_pass.specs.Walk.{set_nodes}
use Rattle.words.specs.Layout.{tree, node_of}
use Rattle.words.proofs.Nodes.{tree-length, tree-at}
use Rattle.words_scopes.specs.State.{Named, Names}
use Rattle.words_nodes.specs.Nodes.{Planted, One, NodePut, Replants, tree_from, put_at}
use Rattle.words_nodes.proofs.Trees.{flat-from, put_one}
use Rattle.words_nodes.proofs.Words.{tree-whole}
use Rattle.words_nodes.proofs.Apart.{replants}
use Rattle.words.proofs.Stored.{put-tree}
use Rattle.words_state.specs.State.{rest}
use Rattle.words_state.proofs.Fields.{replants-rest}
use Rattle.walk_write.specs.Answers.{re_kind}

abbrev pub of_kind : ℕ → ℕ → Tree → Tree
of_kind k f (node j b a ts) = node k f a ts

module _ (xs : List Core) (i k f : ℕ) (l : i < length xs) (h : Whole xs) where
  abbrev c : Core
  c = get_or xs i no_core

  abbrev t : Tree
  t = tree_from xs i

  abbrev post : List Core
  post = drop (i + count t) xs

  flat-turned : (u : Tree) (zs ys : List Core) (d : Core) → flat u zs ≡ d ∷ ys → flat (of_kind k f u) zs ≡ re_kind k f d ∷ ys
  flat-turned (node j b a ts) zs ys d e =
      let p : core j b (length_f ts) a ≡ d = cc in
      let q : flats ts zs ≡ ys = cc in
      ap (λ (x : Core). re_kind k f x ∷ flats ts zs) p ∙ ap (λ (v : List Core). re_kind k f d ∷ v) q

  turned-put : set xs i (re_kind k f c) ≡ put_at xs i (of_kind k f t)
  unfolding put_at
  turned-put = set_split xs i (re_kind k f c) l ∙ ap (λ (v : List Core). take i xs ++ v) (sym (flat-turned t post (drop (suc i) xs) c (flat-from xs i l h ∙ drop-cons xs i no_core l)))

  pub turned-tree : tree_from (set xs i (re_kind k f c)) i ≡ of_kind k f t
  unfolding tree_from put_at
  turned-tree =
      ap (λ (v : List Core). first_t (plant (drop i v))) turned-put ∙ ap (λ (v : List Core). first_t (plant v)) (drop_at (take i xs) (flat (of_kind k f t) post) i (length-take-le i xs (omega arith)))
      ∙ ap first_t (plant-flat (of_kind k f t) post)

  turned-one : One xs → One (set xs i (re_kind k f c))
  turned-one o = rw turned-put (put_one xs i l (of_kind k f t) o)

names-turned : (xs : List Core) (i : ℕ) (d : Core) → i < length xs → Named d → Names xs → Names (set xs i d)
names-turned xs i d l n h j = go (eqb j i) refl
  where
    go : (p : Bool) → eqb j i ≡ p → Named (get_or (set xs i d) j no_core)
    go true e = rw (eqb-true j i e, get_or-set_same xs i d no_core l) n
    go false e = rw (get_or-set_other xs i j d no_core (eqb-false j i e)) (h j)

module _ {w : List ℕ} (g : Planted w) (i : ℕ) (l : i < get_or w 0 0) where
  inside : i < length (tree w)
  inside = rw tree-length l

  pub turn-done : {u : List ℕ} {k f a n : ℕ} → ((node_of w i).kind ≡ 20) ⊎ ((node_of w i).kind ≡ 21) → a ≡ (node_of w i).arity → n ≡ (node_of w i).num → NodePut w u i (core k f a n) → Replants w u (set (tree w) i (re_kind k f (get_or (tree w) i no_core)))
  turn-done {u} {k} {f} {a} {n} o q r s =
      let c : Core = get_or (tree w) i no_core in
      let here : c ≡ node_of w i = tree-at w i l in
      let d : core k f a n ≡ re_kind k f c = rw (q, r) (ap (re_kind k f) (sym here)) in
      let small : c.num < 256 = g.good.names i (rw here o) in
      replants (set (tree w) i (re_kind k f c)) g s.apart (omega (arith, s.count, g.good.nodes)) (put-tree s l ∙ ap (set (tree w) i) d)
      (names-turned (tree w) i (re_kind k f c) inside (λ x. small) g.good.names) (turned-one (tree w) i k f inside (tree-whole g) g.one)

  -- the rest of the state stays
  pub turned-rest : {u : List ℕ} (d : Core) → Replants w u (set (tree w) i d) → rest u ≡ rest w
  unfolding rest
  turned-rest {u} d b = replants-rest b ∙ ap (λ (n : ℕ). set_nodes n (rest w)) (simp length-set (tree-length w))

-- back
pub turned-back : (xs : List Core) (i f b : ℕ) → i < length xs → (get_or xs i no_core).kind ≡ 20 → (get_or xs i no_core).form ≡ b → set (set xs i (re_kind 21 f (get_or xs i no_core))) i (re_kind 20 b (get_or (set xs i (re_kind 21 f (get_or xs i no_core))) i no_core)) ≡ xs
turned-back xs i f b l e h =
    let c : Core = get_or xs i no_core in
    ap (λ (d : Core). set (set xs i (re_kind 21 f c)) i (re_kind 20 b d)) (get_or-set_same xs i (re_kind 21 f c) no_core l) ∙ set-set xs i (re_kind 21 f c) (re_kind 20 b c) ∙ ap (λ (k : ℕ). set xs i (re_kind k b c)) (sym e) ∙ ap (λ (g : ℕ). set xs i (re_kind c.kind g c)) (sym h)
    ∙ set-get_or xs i no_core

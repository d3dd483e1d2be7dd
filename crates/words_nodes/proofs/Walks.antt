-- The contracts here in the terms of the walk on the list: `skip`, `skips`, `put`, and `cut_first` with `set_arity`. Assumes nothing.
use mathlib.Core.Path.{◌≡◌, refl, ap, ◌∙◌}
use mathlib.Core.List.{List, ◌++◌}
use Prim.Native.Nat.{ℕ, ◌+◌, ◌-◌, ◌≤◌, ◌<◌}
use native.Mathlib.Omega.{arith}
use lib.ListN.{length, get_or, take, drop, get_or-append}
use lib.Seq.{length-take-le, get_or-take}
use Rattle.def_tree.specs.Tree.{Tree, Core, no_core, count}
use Rattle.def_tree.specs.Combine.{Res, stop, done, ◌>>◌, Flat, node_at, tree_at, forest_at, act, skip, put, set_arity}
use Rattle.def_pass.specs.Walk.{St, set_nodes, replace}
use Rattle.words_nodes.specs.Nodes.{tree_from, forest_from, Child, put_at, cut_at, refusal}
use Rattle.words_nodes.proofs.Rows.{replace-done, replace-stop}
use Rattle.words_nodes.proofs.Trees.{tree-at-is}
use Rattle.words_nodes.proofs.Loops.{forest-first}

-- the second child begins behind the first
pub second-child : (xs : List Core) (q : ℕ) → 1 < (get_or xs q no_core).arity → q + 1 < length xs → Child xs q 1 (q + 1 + count (tree_from xs (q + 1)))
second-child xs q f l = record { parent = omega arith; few = f; at = rw (forest-first xs (q + 1) l) (omega arith) }

module _ {S : Type 0} (st : Flat S) where
  pub forest-at-is : (n i : ℕ) → forest_at st n i ≡ forest_from st.nodes n i
  unfolding forest_at forest_from
  forest-at-is n i = refl

  pub skip_is : (i : ℕ) → skip i st ≡ done st (i + count (tree_from st.nodes i))
  skip_is i = ap (λ (t : Tree). done st (i + count t)) (tree-at-is st i)

  pub put_is : (e : Tree) (i : ℕ) → put e i st ≡ done (record { nodes = put_at st.nodes i e; rest = st.rest }) (i + count e)
  unfolding put_at tree_at tree_from
  put_is e i = refl

  -- the list without the tree at i, and then one child less at q
  pub cut-is : (q i : ℕ) → q < i → i ≤ length st.nodes
      → set_arity q ((node_at st q).arity - 1) (record { nodes = take i st.nodes ++ drop (i + count (tree_at st i)) st.nodes; rest = st.rest }) ≡ record { nodes = cut_at st.nodes q i; rest = st.rest }
  unfolding cut_at tree_at tree_from
  cut-is q i l h =
      let e : get_or (take i st.nodes ++ drop (i + count (tree_at st i)) st.nodes) q no_core ≡ get_or st.nodes q no_core =
      get_or-append (take i st.nodes) (drop (i + count (tree_at st i)) st.nodes) no_core q (omega (arith, length-take-le i st.nodes h)) ∙ get_or-take i st.nodes q no_core l in
      rw e refl

-- a replacement with its rows, as the walk does it
module _ (st : Flat St) (p i : ℕ) (e : Tree) where
  abbrev old : Tree
  old = tree_from st.nodes i

  abbrev swap : Res (Flat St) ℕ
  swap = (act (λ t. replace p t e) i >> put e i) st

  pub swap-stop : (m : ℕ) → 0 < m → refusal p st.rest.nodes old e ≡ m → swap ≡ stop m
  swap-stop m z r = rw (tree-at-is st i, replace-stop p old e st.rest m z r) refl

  pub swap-done : refusal p st.rest.nodes old e ≡ 0 → swap ≡ done (record { nodes = put_at st.nodes i e; rest = set_nodes (st.rest.nodes + count e - count old) st.rest }) (i + count e)
  swap-done r = rw (tree-at-is st i, replace-done p old e st.rest r) (put_is (record { nodes = st.nodes; rest = set_nodes (st.rest.nodes + count e - count old) st.rest }) e i)

-- Names written: one, and those of n trees by a loop over their nodes. Assumes nothing.
use Rattle.std.proofs.Common.{Result}
use mathlib.Core.Path.{◌≡◌, refl, sym, ap, ◌∙◌}
use mathlib.Core.List.{List, []}
use mathlib.Core.Bool.{Bool, true, false}
use Prim.Native.Nat.{ℕ, ◌+◌, ◌-◌, ◌<◌}
use lib.ListN.{get_or, length}
use Rattle.def_tree.specs.Tree.{Tree, node, nil, form, num, Core, no_core, count}
use Rattle.def_tree.specs.Combine.{Res, done, Nothing, and_then, node_at, tree_at, forest_at, act, act_f}
use Rattle.def_tree.proofs.Whole.{form-at, num-at}
use Rattle.def_pass.specs.Twice.{is_args}
use Rattle.def_pass.specs.Scope.{add_write}
use Rattle.def_pass.specs.Tree.{ident_list_f}
use Rattle.def_pass.specs.Walk.{St, grow, write, writes, write_forest}
use Rattle.words.specs.Layout.{tree, node_of}
use Rattle.words.proofs.Nodes.{tree-length, tree-at}
use Rattle.words_scopes.specs.State.{stack}
use Rattle.scope_find.specs.Answers.{is_name}
use Rattle.scope_values.specs.Steps.{GrownLate}
use Rattle.refusal.specs.declared.Refusal.{Refusal}
use Rattle.refusal.specs.Number.{refused}
use Rattle.words_nodes.specs.Nodes.{Planted, tree_from, forest_from}
use Rattle.words_nodes.proofs.Loops.{Open, open_in, open-past}
use Rattle.words_nodes.proofs.Words.{tree-whole, in_tree, node-here}
use Rattle.words_state.specs.State.{rest, abs, Ok, Act}
use Rattle.words_state.proofs.Fields.{ok-self, ok-then}
use Rattle.walk_write.proofs.Steps.{Step, step-act, act-step, step-stop, step-tree, step-done, step-on, step-as, late-step}
use Rattle.walk_write.proofs.Names.{names-past, names_in}

-- only a tree's number and form matter
pub write_same : (force : Bool) (t u : Tree) → num t ≡ num u → form t ≡ form u → write force t ≡ write force u
unfolding write
write_same force t u p q = rw (p, q) refl

-- the node at i
module _ (w : List ℕ) (i : ℕ) (l : i < get_or w 0 0) where
  at_here : node_at (abs w) i ≡ node_of w i
  at_here = tree-at w i l

  inside : i < length (tree w)
  inside = rw tree-length l

  pub num-here : num (tree_at (abs w) i) ≡ (node_of w i).num
  num-here = num-at (abs w) i inside ∙ ap (λ (c : Core). c.num) at_here

  pub form-here : form (tree_at (abs w) i) ≡ (node_of w i).form
  form-here = form-at (abs w) i inside ∙ ap (λ (c : Core). c.form) at_here

  pub ident-act : {u : List ℕ} (x : ℕ) (args force : Bool) (r : Result Unit Refusal) → Planted w → x ≡ (node_of w i).num → args ≡ is_args (node_of w i).form → GrownLate w u (add_write x args force (stack w)) r → Act w u (refused r) (act (write force) i (abs w))
  unfolding write
  ident-act x args force r g p q b =
      let t : Tree = tree_at (abs w) i in
      step-act (write force t) (step-as (ap (λ (a : ℕ). grow (add_write a args force) (rest w)) (p ∙ sym num-here) ∙ ap (λ (b : Bool). grow (add_write (num t) b force) (rest w)) (q ∙ ap is_args (sym form-here))) (late-step g (add_write x args force) r b))

-- n trees from i on: what is left to write are the names of the trees still open
pub record Writing (w₀ w : List ℕ) (force : Bool) (n i more at : ℕ) : Type 0 where
  pub ok : Ok w₀ w
  pub nodes : tree w ≡ tree w₀
  pub still : Open (tree w) at more
  pub left : writes force (ident_list_f (forest_from (tree w₀) n i) []) (rest w₀) ≡ writes force (ident_list_f (forest_from (tree w) more at) []) (rest w)

pub writing-none : {w : List ℕ} (force : Bool) (n i : ℕ) → Planted w → Open (tree w) i n → Writing w w force n i n i
writing-none force n i g o = record { ok = ok-self g; nodes = refl; still = o; left = refl }

module _ {w₀ w : List ℕ} {force : Bool} {n i more at : ℕ} (d : Writing w₀ w force n i more at) where
  pub writing-all : more ≡ 0 → Act w₀ w 0 (act_f (write_forest force) n i (abs w₀))
  unfolding write_forest writes forest_from forest_at
  writing-all z =
      let e : writes force (ident_list_f (forest_from (tree w) more at) []) (rest w) ≡ done (rest w) tt = rw z refl in
      step-act (write_forest force (forest_at (abs w₀) n i)) (step-as (sym (d.left ∙ e)) (record { ok = d.ok; nodes = d.nodes; does = (refl, d.nodes, refl) }))

  module _ (z : 0 < more) where
    abbrev g : Planted w
    g = d.ok.planted

    abbrev c : Core
    c = get_or (tree w) at no_core

    here : node_of w at ≡ c
    here = node-here g d.still z

    -- another node: its children are open then
    pub writing-in : {a : ℕ} → is_name (node_of w at) ≡ false → a ≡ (node_of w at).arity → Writing w₀ w force n i (more - 1 + a) (at + 1)
    writing-in {a} e q =
        let q' : a ≡ c.arity = q ∙ ap (λ (x : Core). x.arity) here in
        rw q' (record {
          ok = d.ok;
          nodes = d.nodes;
          still = open_in (tree-whole g) d.still z;
          left = d.left ∙ ap (λ (ts : List Tree). writes force ts (rest w)) (names_in (tree-whole g) d.still z (ap is_name (sym here) ∙ e));
        })

    -- a name: the trees behind it are left
    module _ {u : List ℕ} {r : ℕ} (e : is_name (node_of w at) ≡ true) (a : Act w u r (act (write force) at (abs w))) where
      abbrev next : ℕ
      next = at + count (tree_from (tree w) at)

      abbrev leaf : Tree
      leaf = node c.kind c.form c.num nil

      abbrev others : List Tree
      others = ident_list_f (forest_from (tree w) (more - 1) next) []

      one : Step w u r (write force leaf (rest w))
      one =
          let l : at < get_or w 0 0 = in_tree g d.still z in
          let p : write force (tree_at (abs w) at) ≡ write force leaf = write_same force (tree_at (abs w) at) leaf (num-here w at l ∙ ap (λ (x : Core). x.num) here) (form-here w at l ∙ ap (λ (x : Core). x.form) here) in
          rw p at (act-step (write force (tree_at (abs w) at)) a)

      split : writes force (ident_list_f (forest_from (tree w₀) n i) []) (rest w₀) ≡ and_then (write force leaf (rest w)) (λ x. writes force others)
      unfolding writes
      split = d.left ∙ ap (λ (ts : List Tree). writes force ts (rest w)) (names-past (tree-whole g) d.still z (ap is_name (sym here) ∙ e))

      pub writing-past : {j : ℕ} → r ≡ 0 → j ≡ at + count (tree_from (tree u) at) → Writing w₀ u force n i (more - 1) j
      writing-past {j} q m =
          let t : tree u ≡ tree w = step-tree (writes force others) one q in
          let m' : j ≡ next = m ∙ ap (λ (xs : List Core). at + count (tree_from xs at)) t in
          rw (m') (record {
            ok = ok-then d.ok a.ok;
            nodes = t ∙ d.nodes;
            still = rw t (open-past (tree-whole g) d.still z);
            left = split ∙ ap (λ (x : Res St Nothing). and_then x (λ y. writes force others)) (step-done one q) ∙ ap (λ (xs : List Core). writes force (ident_list_f (forest_from xs (more - 1) next) []) (rest u)) (sym t);
          })

      pub writing-stop : 0 < r → Act w₀ u r (act_f (write_forest force) n i (abs w₀))
      unfolding write_forest forest_at forest_from
      writing-stop q = step-act (write_forest force (forest_at (abs w₀) n i)) (step-as (sym split) (step-on d.ok d.nodes (step-stop (writes force others) one q)))

-- the tree has as many nodes as before
pub nodes-kept : {w₀ w : List ℕ} {force : Bool} {n i more at : ℕ} → Writing w₀ w force n i more at → get_or w 0 0 ≡ get_or w₀ 0 0
nodes-kept {w₀} {w} d = sym (tree-length w) ∙ ap length d.nodes ∙ tree-length w₀

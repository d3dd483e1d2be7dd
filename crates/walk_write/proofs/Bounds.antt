-- The names that trees bind, as a loop over the nodes meets them, prevented one after the other. Assumes nothing.
use mathlib.Core.Path.{◌≡◌, refl, sym, ap, ◌∙◌}
use mathlib.Core.List.{List, [], ◌∷◌}
use mathlib.Core.Bool.{Bool, true, false}
use Prim.Native.Nat.{ℕ, ◌+◌, ◌-◌, ◌<◌}
use native.Mathlib.Omega.{arith}
use lib.ListN.{get_or, drop, length}
use borrow.Author.Tests.{eq-eqb, ne_eqb}
use Rattle.def_tree.specs.Tree.{Forest, node, nil, cons, Core, no_core, count, take_f, drop_f, plant}
use Rattle.def_tree.specs.Combine.{Res, Nothing, and_then, tree_at, act}
use Rattle.def_tree.proofs.Place.{append_f}
use Rattle.def_tree.proofs.Whole.{Whole}
use Rattle.def_pass.specs.Tree.{in_pattern, bound_names, bound_names_f}
use Rattle.def_pass.specs.Scope.{prevent_inline, prevent_each}
use Rattle.def_pass.specs.Walk.{St, mark}
use Rattle.words.specs.Layout.{tree, node_of}
use Rattle.words.proofs.Nodes.{tree-length}
use Rattle.words_scopes.specs.State.{Becomes, stack}
use Rattle.words_nodes.specs.Nodes.{Planted, tree_from, forest_from}
use Rattle.words_nodes.proofs.Loops.{Open, open-first, open_in, open-past, forest-first, forest-here, forest-next, forest-past}
use Rattle.words_nodes.proofs.Words.{tree-whole, in_tree, node-here}
use Rattle.words_state.specs.State.{rest, abs, Ok, Act}
use Rattle.words_state.proofs.Fields.{ok-self, ok-then}
use Rattle.walk_write.proofs.Steps.{Step, step-act, step-as, step-tree, step-done, mark-step}

bounds-append : (ts us : Forest) (r : List ℕ) → bound_names_f (append_f ts us) r ≡ bound_names_f ts (bound_names_f us r)
bounds-append nil us r = refl
bounds-append (cons t ts) us r = ap (bound_names t) (bounds-append ts us r)

-- one node's
module _ (k f a : ℕ) (ts : Forest) (r : List ℕ) where
  abbrev by : Bool → Bool → List ℕ
  by b p = elim b [ true ↦ a ∷ r | false ↦ elim p [ true ↦ bound_names_f ts r | false ↦ r ] ]

  name-node : k ≡ 20 → bound_names (node k f a ts) r ≡ a ∷ r
  name-node e = ap (λ (b : Bool). by b (in_pattern k)) (eq-eqb k 20 e)

  other-node : (k ≡ 20 → ⊥) → (p : Bool) → in_pattern k ≡ p → bound_names (node k f a ts) r ≡ by false p
  other-node h p e = ap (λ (b : Bool). by b (in_pattern k)) (ne_eqb k 20 h) ∙ ap (by false) e

never : ◌≡◌ {A = Bool} false true → ⊥
never e = let y : ◌≡◌ {A = ℕ} 0 1 = cc in omega arith

-- a pattern is no name
high : (k : ℕ) → in_pattern k ≡ true → k ≡ 20 → ⊥
high k e q = never (sym (ap in_pattern q) ∙ e)

-- n trees from the node at `at` on
module _ {xs : List Core} (w : Whole xs) {at n : ℕ} (o : Open xs at n) (z : 0 < n) where
  abbrev x : Core
  x = get_or xs at no_core

  abbrev ks : Forest
  ks = take_f x.arity (plant (drop (at + 1) xs))

  abbrev bs : Forest
  bs = take_f (n - 1) (drop_f x.arity (plant (drop (at + 1) xs)))

  abbrev next : ℕ
  next = at + count (tree_from xs at)

  bounds-here : bound_names_f (forest_from xs n at) [] ≡ bound_names (node x.kind x.form x.num ks) (bound_names_f bs [])
  bounds-here = ap (λ (ts : Forest). bound_names_f ts []) (forest-here w o z)

  behind : bound_names_f bs [] ≡ bound_names_f (forest_from xs (n - 1) next) []
  behind = ap (λ (ts : Forest). bound_names_f ts []) (sym (forest-past w o z))

  pub bounds-name : x.kind ≡ 20 → bound_names_f (forest_from xs n at) [] ≡ x.num ∷ bound_names_f (forest_from xs (n - 1) next) []
  bounds-name e = bounds-here ∙ name-node x.kind x.form x.num ks (bound_names_f bs []) e ∙ ap (λ (is : List ℕ). x.num ∷ is) behind

  pub bounds-past : (x.kind ≡ 20 → ⊥) → in_pattern x.kind ≡ false → bound_names_f (forest_from xs n at) [] ≡ bound_names_f (forest_from xs (n - 1) next) []
  bounds-past h e = bounds-here ∙ other-node x.kind x.form x.num ks (bound_names_f bs []) h false e ∙ behind

  pub bounds-in : in_pattern x.kind ≡ true → bound_names_f (forest_from xs n at) [] ≡ bound_names_f (forest_from xs (n - 1 + x.arity) (at + 1)) []
  bounds-in e =
      bounds-here ∙ other-node x.kind x.form x.num ks (bound_names_f bs []) (high x.kind e) true e
      ∙ sym (ap (λ (ts : Forest). bound_names_f ts []) (forest-next w o z) ∙ bounds-append ks bs [])

-- the tree at i: what is left to prevent are the names that the trees still open bind
pub record Preventing (w₀ w : List ℕ) (i more at : ℕ) : Type 0 where
  pub ok : Ok w₀ w
  pub nodes : tree w ≡ tree w₀
  pub still : Open (tree w) at more
  pub left : mark (prevent_each (bound_names (tree_at (abs w₀) i) [])) (rest w₀) ≡ mark (prevent_each (bound_names_f (forest_from (tree w) more at) [])) (rest w)

pub preventing-none : {w : List ℕ} (i : ℕ) → Planted w → i < get_or w 0 0 → Preventing w w i 1 i
unfolding tree_at tree_from
preventing-none {w} i g l =
    let l' : i < length (tree w) = rw tree-length l in
    record {
      ok = ok-self g;
      nodes = refl;
      still = open-first (tree w) i l';
      left = ap (λ (ts : Forest). mark (prevent_each (bound_names_f ts [])) (rest w)) (sym (forest-first (tree w) i l'));
    }

module _ {w₀ w : List ℕ} {i more at : ℕ} (d : Preventing w₀ w i more at) where
  pub preventing-all : more ≡ 0 → Act w₀ w 0 (act (λ t. mark (prevent_each (bound_names t []))) i (abs w₀))
  unfolding forest_from
  preventing-all z =
      let e : mark (prevent_each (bound_names_f (forest_from (tree w) more at) [])) (rest w) ≡ mark (λ st. st) (rest w) = rw z refl in
      step-act (mark (prevent_each (bound_names (tree_at (abs w₀) i) []))) (step-as (sym (d.left ∙ e)) (record { ok = d.ok; nodes = d.nodes; does = (refl, d.nodes, refl) }))

  pub count_kept : get_or w 0 0 ≡ get_or w₀ 0 0
  count_kept = sym (tree-length w) ∙ ap length d.nodes ∙ tree-length w₀

  module _ (z : 0 < more) where
    abbrev g : Planted w
    g = d.ok.planted

    abbrev c : Core
    c = get_or (tree w) at no_core

    here : node_of w at ≡ c
    here = node-here g d.still z

    kind-is : (node_of w at).kind ≡ c.kind
    kind-is = ap (λ (x : Core). x.kind) here

    -- by what is left
    abbrev leaves : List ℕ → Res St Nothing
    leaves is = mark (prevent_each is) (rest w)

    -- a pattern: its parts are open then
    pub preventing-in : {a : ℕ} → in_pattern (node_of w at).kind ≡ true → a ≡ (node_of w at).arity → Preventing w₀ w i (more - 1 + a) (at + 1)
    preventing-in {a} e q =
        let q' : a ≡ c.arity = q ∙ ap (λ (x : Core). x.arity) here in
        rw q' (record {
          ok = d.ok;
          nodes = d.nodes;
          still = open_in (tree-whole g) d.still z;
          left = d.left ∙ ap leaves (bounds-in (tree-whole g) d.still z (ap in_pattern (sym kind-is) ∙ e));
        })

    -- neither a pattern nor a name
    pub preventing-past : {j : ℕ} → in_pattern (node_of w at).kind ≡ false → ((node_of w at).kind ≡ 20 → ⊥) → j ≡ at + count (tree_from (tree w) at) → Preventing w₀ w i (more - 1) j
    preventing-past {j} e h m = rw m (record {
      ok = d.ok;
      nodes = d.nodes;
      still = open-past (tree-whole g) d.still z;
      left = d.left ∙ ap leaves (bounds-past (tree-whole g) d.still z (λ x. h (kind-is ∙ x)) (ap in_pattern (sym kind-is) ∙ e));
    })

    -- a name
    pub name-needs : {u : List ℕ} (x : ℕ) → Becomes w u (prevent_inline x (stack w)) → Planted u × (at < get_or u 0 0)
    name-needs {u} x b =
        let one : Step w u 0 (mark (prevent_inline x) (rest w)) = mark-step g (prevent_inline x) b in
        let t : tree u ≡ tree w = step-tree (mark (prevent_inline x)) one refl in
        (one.ok.planted, omega (arith, in_tree g d.still z, sym (tree-length u) ∙ ap length t ∙ tree-length w))

    pub preventing-name : {u : List ℕ} {x j : ℕ} → (node_of w at).kind ≡ 20 → x ≡ (node_of w at).num → Becomes w u (prevent_inline x (stack w)) → j ≡ at + count (tree_from (tree u) at) → Preventing w₀ u i (more - 1) j
    preventing-name {u} {x} {j} e q b m =
        let next : ℕ = at + count (tree_from (tree w) at) in
        let others : List ℕ = bound_names_f (forest_from (tree w) (more - 1) next) [] in
        let one : Step w u 0 (mark (prevent_inline x) (rest w)) = mark-step g (prevent_inline x) b in
        let t : tree u ≡ tree w = step-tree (mark (prevent_each others)) one refl in
        let m' : j ≡ next = m ∙ ap (λ (xs : List Core). at + count (tree_from xs at)) t in
        let q' : c.num ≡ x = sym (q ∙ ap (λ (y : Core). y.num) here) in
        rw m' (record {
          ok = ok-then d.ok one.ok;
          nodes = t ∙ d.nodes;
          still = rw t (open-past (tree-whole g) d.still z);
          left = d.left ∙ ap leaves (bounds-name (tree-whole g) d.still z (sym kind-is ∙ e) ∙ ap (λ (y : ℕ). y ∷ others) q')
              ∙ ap (λ (r : Res St Nothing). and_then r (λ y. mark (prevent_each others))) (step-done one refl)
              ∙ ap (λ (xs : List Core). mark (prevent_each (bound_names_f (forest_from xs (more - 1) next) [])) (rest u)) (sym t);
        })

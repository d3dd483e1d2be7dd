-- The names in trees, as a loop over the nodes meets them. Assumes nothing.
use mathlib.Core.Path.{◌≡◌, refl, sym, ap, ◌∙◌}
use mathlib.Core.List.{List, [], ◌∷◌}
use mathlib.Core.Bool.{Bool, true, false, ◌||◌}
use Prim.Native.Nat.{ℕ, ◌+◌, ◌-◌, ◌<◌}
use mathlib.Core.Logic.{◌⊎◌, ⊎_elim, inl, inr}
use lib.Dec.{eqb}
use borrow.Author.Tests.{eqb-true}
use lib.ListN.{get_or, drop}
use Rattle.def_tree.specs.Tree.{Tree, Forest, node, nil, cons, Core, no_core, count, take_f, drop_f, plant}
use Rattle.def_tree.proofs.Place.{append_f}
use Rattle.def_tree.proofs.Whole.{Whole}
use Rattle.def_pass.specs.Tree.{ident_list, ident_list_f}
use Rattle.scope_find.specs.Answers.{is_name}
use Rattle.words_nodes.specs.Nodes.{tree_from, forest_from}
use Rattle.words_nodes.proofs.Loops.{Open, forest-here, forest-next, forest-past}

names-append : (ts us : Forest) (r : List Tree) → ident_list_f (append_f ts us) r ≡ ident_list_f ts (ident_list_f us r)
names-append nil us r = refl
names-append (cons t ts) us r = ap (ident_list t) (names-append ts us r)

module _ (k f a : ℕ) (ts : Forest) (r : List Tree) where
  abbrev by : Bool → List Tree
  by p = elim p [ true ↦ node k f a nil ∷ r | false ↦ ident_list_f ts r ]

  name-node : (eqb k 20 || eqb k 21) ≡ true → ident_list (node k f a ts) r ≡ node k f a nil ∷ r
  name-node e = ap by e

  other-node : (eqb k 20 || eqb k 21) ≡ false → ident_list (node k f a ts) r ≡ ident_list_f ts r
  other-node e = ap by e

-- n trees from the node at `at` on
module _ {xs : List Core} (w : Whole xs) {at n : ℕ} (o : Open xs at n) (z : 0 < n) where
  abbrev x : Core
  x = get_or xs at no_core

  -- the node's children, and the trees behind it
  abbrev ks : Forest
  ks = take_f x.arity (plant (drop (at + 1) xs))

  abbrev bs : Forest
  bs = take_f (n - 1) (drop_f x.arity (plant (drop (at + 1) xs)))

  names-here : ident_list_f (forest_from xs n at) [] ≡ ident_list (node x.kind x.form x.num ks) (ident_list_f bs [])
  names-here = ap (λ (ts : Forest). ident_list_f ts []) (forest-here w o z)

  pub names-past : is_name x ≡ true → ident_list_f (forest_from xs n at) [] ≡ node x.kind x.form x.num nil ∷ ident_list_f (forest_from xs (n - 1) (at + count (tree_from xs at))) []
  names-past e = names-here ∙ name-node x.kind x.form x.num ks (ident_list_f bs []) e ∙ ap (λ (ts : Forest). node x.kind x.form x.num nil ∷ ident_list_f ts []) (sym (forest-past w o z))

  pub names_in : is_name x ≡ false → ident_list_f (forest_from xs n at) [] ≡ ident_list_f (forest_from xs (n - 1 + x.arity) (at + 1)) []
  names_in e = names-here ∙ other-node x.kind x.form x.num ks (ident_list_f bs []) e ∙ sym (ap (λ (ts : Forest). ident_list_f ts []) (forest-next w o z) ∙ names-append ks bs [])

-- a name's kinds
pub name-yes : (k : ℕ) → (k ≡ 20) ⊎ (k ≡ 21) → (eqb k 20 || eqb k 21) ≡ true
name-yes k o = ⊎_elim (λ (e : k ≡ 20). rw e refl) (λ (e : k ≡ 21). rw e refl) o

pub name-kind : (k : ℕ) → (eqb k 20 || eqb k 21) ≡ true → (k ≡ 20) ⊎ (k ≡ 21)
name-kind k e = go (eqb k 20) refl
  where
    go : (p : Bool) → eqb k 20 ≡ p → (k ≡ 20) ⊎ (k ≡ 21)
    go true q = inl (eqb-true k 20 q)
    go false q = inr (eqb-true k 21 (ap (λ (p : Bool). p || eqb k 21) (sym q) ∙ e))

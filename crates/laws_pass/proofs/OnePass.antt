-- One pass through a scope marks what a pass by name and then one by value mark, and the first binding of a name is its only one. Assumes nothing.
use mathlib.Core.Path.{◌≡◌, refl, sym, ap, ◌∙◌, subst}
use mathlib.Core.Bool.{Bool, true, false}
use mathlib.Core.Option.{Option, none, some}
use mathlib.Core.List.{List, [], ◌∷◌}
use Prim.Native.Nat.{ℕ}
use lib.Dec.{T, eqb}
use borrow.Author.Tests.{eqb-true}
use Rattle.def_tree.specs.Base.{change_if}
use Rattle.def_tree.specs.Combine.{Res, stop, done}
use Rattle.def_tree.proofs.OnePass.{one-pass}
use Rattle.def_pass.specs.Tree.{Tree, Forest, node, nil, cons}
use Rattle.def_pass.specs.Scope as Scope
use Rattle.def_pass.specs.Scope.{VarInfo, Stack, prevent, value_is, change_in, has_in}
use Rattle.def_pass.specs.Walk as Walk
use Rattle.def_pass.specs.Walk.{St}
use Rattle.laws_pass.specs.OnePass.{by_name, by_value, OnePass, Lone, LoneIn, FirstOfName, LoneAfter, ScopesLone}
use Rattle.laws_pass.proofs.Single.{Single, ids, has-mem}
use Rattle.laws_pass.proofs.Effects.{Went, full-does, bare-does, inner-does, run-does}
use Rattle.laws_pass.proofs.Keep as Keep
use Rattle.laws_pass.proofs.All.{All}

pub marks-once : OnePass
marks-once i bs = one-pass prevent (λ b. eqb b.id i) (λ b. value_is i b.value) (λ b. refl) (λ b. refl) bs

-- without a binding of the name there is nothing to mark by it
none_named : (i : ℕ) (bs : List VarInfo) → has_in i bs ≡ false → by_name i bs ≡ bs
none_named i [] e = refl
none_named i (b ∷ bs) e = go (eqb b.id i) refl e (none_named i bs)
  where
    no : true ≡ false → ⊥
    no q = subst T q tt

    go : (p : Bool) → eqb b.id i ≡ p → Scope.is_some {A = VarInfo} (elim p [ true ↦ some b | false ↦ Scope.find_in i bs ]) ≡ false → (has_in i bs ≡ false → by_name i bs ≡ bs) → change_if prevent (λ c. eqb c.id i) b ∷ by_name i bs ≡ b ∷ bs
    go true h e k = absurd (no e)
    go false h e k = rw h (ap (λ (cs : List VarInfo). b ∷ cs) (k e))

first-is : (i : ℕ) (bs : List VarInfo) → Lone bs → change_in i prevent bs ≡ by_name i bs
first-is i [] h = refl
first-is i (b ∷ bs) h = go (eqb b.id i) refl (first-is i bs h.1)
  where
    go : (p : Bool) → eqb b.id i ≡ p → change_in i prevent bs ≡ by_name i bs → elim p [ true ↦ prevent b ∷ bs | false ↦ b ∷ change_in i prevent bs ] ≡ change_if prevent (λ c. eqb c.id i) b ∷ by_name i bs
    go true e k = rw e (ap (λ (cs : List VarInfo). prevent b ∷ cs) (sym (none_named i bs (subst (λ (n : ℕ). has_in n bs ≡ false) (eqb-true b.id i e) h.0))))
    go false e k = rw e (ap (λ (cs : List VarInfo). b ∷ cs) k)

pub first-of-name : FirstOfName
first-of-name i bs h = ap (by_value i) (first-is i bs h) ∙ marks-once i bs

-- what every walk keeps, where nothing is asked of a node
abbrev Any : ℕ → ℕ → ℕ → Type 0
Any k f a = Unit {0}

any-ident : (f a : ℕ) → Any 20 f a → Any 21 f a
any-ident f a n = tt

mutual
  any-tree : (t : Tree) → Keep.OkT Any any-ident tt tt t
  any-tree (node k f a ts) = (tt, any-forest ts)

  any-forest : (ts : Forest) → Keep.OkF Any any-ident tt tt ts
  any-forest nil = tt
  any-forest (cons t ts) = (any-tree t, any-forest ts)

any_value : (v : Option Tree) → Keep.OkO Any any-ident tt tt v
any_value none = tt
any_value (some t) = any-tree t

any-bindings : (bs : List VarInfo) → All (Keep.OkB Any any-ident tt tt) bs
any-bindings [] = tt
any-bindings (b ∷ bs) = ((record { flag = 0; ok = tt }, any_value b.value), any-bindings bs)

any-constants : (cs : List (ℕ × Option Tree)) → All (Keep.OkC Any any-ident tt tt) cs
any-constants [] = tt
any-constants (c ∷ cs) = (any_value c.1, any-constants cs)

single : (bs : List VarInfo) → Lone bs → Single (ids bs)
single [] h = tt
single (b ∷ bs) h = (sym (has-mem b.id bs) ∙ h.0, single bs h.1)

lone : (bs : List VarInfo) → Single (ids bs) → Lone bs
lone [] h = tt
lone (b ∷ bs) h = (has-mem b.id bs ∙ h.0, lone bs h.1)

to-kept : (st : Stack) → LoneIn st → Keep.OkSt Any any-ident tt tt st
to-kept [] h = tt
to-kept (s ∷ st) h = ((any-bindings s.bindings, any-constants s.constants, single s.bindings h.0), to-kept st h.1)

from-kept : (st : Stack) → Keep.OkSt Any any-ident tt tt st → LoneIn st
from-kept [] h = tt
from-kept (s ∷ st) h = (lone s.bindings h.0.2, from-kept st h.1)

went : (p : ℕ) (t : Tree) (s : St) (r : Res St Tree) → Went (Keep.keeps Any any-ident tt tt) p t s r → LoneAfter r
went p t s (stop n) h = tt
went p t s (done s' u) h = from-kept s'.stack h.0

pub scopes-lone : ScopesLone
scopes-lone = record {
  full = λ d p t s h. went p t s ((Walk.walks d).full p t s) (full-does (Keep.keeps Any any-ident tt tt) (Keep.kept Any any-ident tt tt) d p t (any-tree t) s (to-kept s.stack h));
  bare = λ d p t s h. went p t s ((Walk.walks d).bare p t s) (bare-does (Keep.keeps Any any-ident tt tt) (Keep.kept Any any-ident tt tt) d p t (any-tree t) s (to-kept s.stack h));
  inner = λ d p t s h. went p t s ((Walk.walks d).inner p t s) (inner-does (Keep.keeps Any any-ident tt tt) (Keep.kept Any any-ident tt tt) d p t (λ e. absurd e) (any-tree t) s (to-kept s.stack h));
  one = λ t s h. went 1 t s (Walk.run t s) (run-does (Keep.keeps Any any-ident tt tt) (Keep.kept Any any-ident tt tt) t (any-tree t) s (to-kept s.stack h));
}

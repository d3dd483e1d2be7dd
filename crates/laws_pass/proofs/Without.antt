-- The walks without the branch in which `y = x` becomes `x` are the walks, and so is the pass. Assumes nothing.
use mathlib.Core.Path.{◌≡◌, refl, sym, ap, ◌∙◌, subst}
use mathlib.Core.Bool.{Bool, true, false, ◌&&◌}
use Prim.Native.Nat.{ℕ, zero, suc}
use lib.Dec.{T, eqb}
use Rattle.def_tree.specs.Combine.{Res, stop, done, and_then, ret, iff}
use Rattle.def_tree.proofs.Tests.{is_T}
use Rattle.def_pass.specs.Tree.{Tree, kind, form, is_ident, count}
use Rattle.def_pass.specs.Twice.{flagged}
use Rattle.def_pass.specs.Walk as Walk
use Rattle.def_pass.specs.Walk.{St, M, Walks, Outcome}
use Rattle.laws_pass.specs.Branch.{Ends, SameWalks, SamePass, after_without, expr_without, walks_without, run_without, runs_without, pass_without}
use Rattle.laws_pass.proofs.Branch.{ends-own}
use Rattle.laws_pass.proofs.Effects.{Out, own-does}
use Rattle.laws_pass.proofs.Refusals.{low, lows}
use Rattle.laws_pass.proofs.StateLaws.{law, effects}

-- behind a handler that leaves an assignment with which the branch is not taken
same-after : (w : Walks) (p : ℕ) (t : Tree) (s : St) → (T (eqb (kind t) 33) → Walk.after_assign p t s ≡ done s t) → after_without w p t s ≡ Walk.after w p t s
unfolding after_without Walk.after
same-after w p t s d = go (is_ident t) (eqb (kind t) 33) refl (eqb (form t) 0)
  where
    by : (c : Bool) → Walk.after_assign p t s ≡ done s t → done s t ≡ iff c (Walk.after_assign p t) (ret t) s
    by true e = sym e
    by false e = refl

    go : (a b : Bool) → eqb (kind t) 33 ≡ b → (c : Bool)
        → elim a as (λ x. M Tree) [ true ↦ Walk.after_ident w p t | false ↦ elim (b && c) as (λ x. M Tree) [ true ↦ ret t | false ↦ Walk.logical w p t ] ] s
        ≡ elim a as (λ x. M Tree) [ true ↦ Walk.after_ident w p t | false ↦ elim (b && c) as (λ x. M Tree) [ true ↦ (λ s₁. iff s₁.inlining (Walk.after_assign p t) (ret t) s₁) | false ↦ Walk.logical w p t ] ] s
    go true b e c = refl
    go false true e true = by s.inlining (d (is_T _ e))
    go false true e false = refl
    go false false e c = refl

abbrev SameKind : Tree → Res St Tree → Type 0
SameKind t (stop n) = Unit {0}
SameKind t (done s u) = kind u ≡ kind t

own-kind : (d p : ℕ) (t : Tree) (s : St) → SameKind t (Walk.own (Walk.walks d) p t s)
own-kind d p t s = out (Walk.own (Walk.walks d) p t s) (own-does (law low) (effects low lows) d p t tt s tt)
  where
    out : (r : Res St Tree) → Out (law low) count (count t) (λ u. Unit {0} × Unit {0} × (kind u ≡ kind t)) s r → SameKind t r
    out (stop n) h = tt
    out (done s₁ u) h = h.2.2

same-expr : (d p : ℕ) (t : Tree) (s : St) → expr_without (Walk.walks d) p t s ≡ Walk.visit_mut_expr (Walk.walks d) p t s
unfolding expr_without Walk.visit_mut_expr
same-expr d p t s = go (Walk.own (Walk.walks d) p t s) (own-kind d p t s) (λ e. ends-own (Walk.walks d) p t e s)
  where
    go : (r : Res St Tree) → SameKind t r → (T (eqb (kind t) 33) → Ends p r) → and_then r (after_without (Walk.walks d) p) ≡ and_then r (Walk.after (Walk.walks d) p)
    go (stop n) x e = refl
    go (done s₁ u) x e = same-after (Walk.walks d) p u s₁ (λ h. e (subst (λ (n : ℕ). T (eqb n 33)) x h))

-- walks that agree at every place, tree and state
one-walks : (a b : Walks) → ((p : ℕ) (t : Tree) (s : St) → a.full p t s ≡ b.full p t s) → ((p : ℕ) (t : Tree) (s : St) → a.bare p t s ≡ b.bare p t s) → ((p : ℕ) (t : Tree) (s : St) → a.inner p t s ≡ b.inner p t s) → a ≡ b
one-walks a b f g h = λ i. record { full = λ p t s. f p t s i; bare = λ p t s. g p t s i; inner = λ p t s. h p t s i }

same : (d : ℕ) → walks_without d ≡ Walk.walks d
unfolding walks_without Walk.walks
same zero = refl
same (suc d) = one-walks _ _
    (λ p t s. ap (λ (w : Walks). expr_without w p t s) (same d) ∙ same-expr d p t s)
    (λ p t s. ap (λ (w : Walks). Walk.own w p t s) (same d))
    (λ p t s. ap (λ (w : Walks). Walk.script_walk w p t s) (same d))

pub same-walks : SameWalks
same-walks d = (λ p t s. ap (λ (w : Walks). w.full p t s) (same d), λ p t s. ap (λ (w : Walks). w.bare p t s) (same d), λ p t s. ap (λ (w : Walks). w.inner p t s) (same d))

same-run : (t : Tree) (s : St) → run_without t s ≡ Walk.run t s
unfolding run_without Walk.run
same-run t s = ap (λ (w : Walks). by w) (same 199)
  where
    by : Walks → Res St Tree
    by w = and_then (Walk.own w 1 t (Walk.set_inlining false s)) (λ u s₁. and_then (Walk.own w 1 u (Walk.set_inlining true s₁)) (λ v s₂. done (Walk.set_inlining false s₂) v))

-- what follows a run, by what follows in more runs
same-again : (go go' : Tree → St → Outcome) → ((t : Tree) (s : St) → go t s ≡ go' t s) → (k : ℕ) (r : Res St Tree) → Walk.again go k r ≡ Walk.again go' k r
same-again go go' h k (stop m) = refl
same-again go go' h k (done s u) = by s.changed
  where
    by : (c : Bool)
        → elim c as (λ x. Outcome) [ true ↦ go u (Walk.set_is_first_run false s) | false ↦ Walk.result k false u (Walk.root_marks s.stack) ]
        ≡ elim c as (λ x. Outcome) [ true ↦ go' u (Walk.set_is_first_run false s) | false ↦ Walk.result k false u (Walk.root_marks s.stack) ]
    by true = h u (Walk.set_is_first_run false s)
    by false = refl

same-runs : (n k : ℕ) (t : Tree) (s : St) → runs_without n k t s ≡ Walk.runs n k t s
unfolding runs_without Walk.runs
same-runs zero k t s = refl
same-runs (suc n) k t s =
    ap (Walk.again (runs_without n (suc k)) (suc k)) (same-run t (Walk.set_changed false s))
    ∙ same-again (runs_without n (suc k)) (Walk.runs n (suc k)) (same-runs n (suc k)) (suc k) (Walk.run t (Walk.set_changed false s))

pub same-pass : SamePass
unfolding pass_without Walk.core_pass
same-pass n t = same-runs n 0 (flagged t) (Walk.start t)

-- The walks' laws by step, at a variable depth and state: what a proof uses in place of the definitions' clauses. Assumes nothing.
use mathlib.Core.Path.{◌≡◌, refl, ap}
use mathlib.Core.Bool.{Bool, true, false}
use mathlib.Core.Option.{none, some}
use Prim.Native.Nat.{ℕ, suc}
use Rattle.def_tree.specs.Base.{pick}
use Rattle.def_tree.specs.Combine.{stop, done, and_then}
use Rattle.def_file.specs.Named.{kind_of}
use Rattle.def_pass.specs.Tree.{Tree, node, nil, cons, kind, num}
use Rattle.def_pass.specs.Scope.{VarInfo, find_binding, find_constant, var_inline_prevented}
use Rattle.def_pass.specs.Walk.{St, Walks, walks, own, after, script_walk, handle, handler_of, after_ident, by_const, ident_analysis, ident_inlining, inline_value, run, runs, Outcome, result, refused, root_marks, set_changed, set_is_first_run}

-- a walk opens only where depth is left

pub full-zero : (p : ℕ) (t : Tree) (s : St) → (walks 0).full p t s ≡ stop 8
unfolding walks
full-zero p t s = refl

pub bare-zero : (p : ℕ) (t : Tree) (s : St) → (walks 0).bare p t s ≡ stop 8
unfolding walks
bare-zero p t s = refl

pub inner-zero : (p : ℕ) (t : Tree) (s : St) → (walks 0).inner p t s ≡ stop 8
unfolding walks
inner-zero p t s = refl

-- the kind's own handler, then the steps of visit_mut_expr; the handler alone; a function's statements

pub full-suc : (d p : ℕ) (t : Tree) (s : St) → (walks (suc d)).full p t s ≡ and_then (own (walks d) p t s) (after (walks d) p)
unfolding walks
full-suc d p t s = refl

pub bare-suc : (d p : ℕ) (t : Tree) (s : St) → (walks (suc d)).bare p t s ≡ own (walks d) p t s
unfolding walks
bare-suc d p t s = refl

pub inner-suc : (d p : ℕ) (t : Tree) (s : St) → (walks (suc d)).inner p t s ≡ script_walk (walks d) p t s
unfolding walks
inner-suc d p t s = refl

pub own-kind : (w : Walks) (p : ℕ) (t : Tree) (s : St) → own w p t s ≡ handle (handler_of (kind_of (kind t))) w p t s
unfolding own
own-kind w p t s = refl

-- an expression statement, by its expression's walk

pub stmt-done : (d p : ℕ) (e e' : Tree) (s s' : St) → (walks d).full (suc p) e s ≡ done s' e' → (walks (suc d)).full p (node 4 0 0 (cons e nil)) s ≡ done s' (node 4 0 0 (cons e' nil))
unfolding walks
stmt-done d p e e' s s' h = rw h refl

pub stmt-stop : (d p : ℕ) (e : Tree) (s : St) (n : ℕ) → (walks d).full (suc p) e s ≡ stop n → (walks (suc d)).full p (node 4 0 0 (cons e nil)) s ≡ stop n
unfolding walks
stmt-stop d p e s n h = rw h refl

-- an identifier: a constant's in the first run; in Analysis; in Inlining, by its binding

pub ident-const : (w : Walks) (p : ℕ) (t e : Tree) (s : St) → s.is_first_run ≡ true → find_constant (num t) s.stack ≡ some e → after_ident w p t s ≡ by_const w p t (some e) s
unfolding after_ident
ident-const w p t e s h k = rw (h, k) refl

pub ident-free : (w : Walks) (p : ℕ) (t : Tree) (s : St) → find_constant (num t) s.stack ≡ none → after_ident w p t s ≡ by_const w p t none s
unfolding after_ident
ident-free w p t s k = rw k (go s.is_first_run)
  where
    go : (b : Bool) → by_const w p t (pick b none none) s ≡ by_const w p t none s
    go true = refl
    go false = refl

pub ident-later : (w : Walks) (p : ℕ) (t : Tree) (s : St) → s.is_first_run ≡ false → after_ident w p t s ≡ by_const w p t none s
unfolding after_ident
ident-later w p t s h = rw h refl

pub ident-analysis : (w : Walks) (p : ℕ) (t : Tree) (s : St) → s.inlining ≡ false → by_const w p t none s ≡ ident_analysis t s
unfolding by_const
ident-analysis w p t s h = rw h refl

pub ident-inlining : (w : Walks) (p : ℕ) (t : Tree) (s : St) → s.inlining ≡ true → by_const w p t none s ≡ ident_inlining w p t s
unfolding by_const
ident-inlining w p t s h = rw h refl

pub ident-unbound : (w : Walks) (p : ℕ) (t : Tree) (s : St) → find_binding (num t) s.stack ≡ none → ident_inlining w p t s ≡ done s t
unfolding ident_inlining
ident-unbound w p t s h = rw (h, ident_inlining) refl

pub ident-prevented : (w : Walks) (p : ℕ) (t : Tree) (b : VarInfo) (s : St) → find_binding (num t) s.stack ≡ some b → var_inline_prevented b ≡ true → ident_inlining w p t s ≡ done s t
unfolding ident_inlining
ident-prevented w p t b s h k = rw (h, ident_inlining) (rw k refl)

pub ident-value : (w : Walks) (p : ℕ) (t : Tree) (b : VarInfo) (s : St) → find_binding (num t) s.stack ≡ some b → var_inline_prevented b ≡ false → ident_inlining w p t s ≡ inline_value w p t b b.value s
unfolding ident_inlining
ident-value w p t b s h k = rw (h, ident_inlining) (rw k refl)

-- the runs: the limit; a refusal; a run with the mark; the last one

pub runs-limit : (k : ℕ) (t : Tree) (s : St) → runs 0 k t s ≡ result k true t (root_marks s.stack)
unfolding runs
runs-limit k t s = refl

pub runs-stop : (n k : ℕ) (t : Tree) (s : St) (m : ℕ) → run t (set_changed false s) ≡ stop m → runs (suc n) k t s ≡ refused m
unfolding runs
runs-stop n k t s m h = rw h refl

pub runs_on : (n k : ℕ) (t t' : Tree) (s s' : St) → run t (set_changed false s) ≡ done s' t' → s'.changed ≡ true → runs (suc n) k t s ≡ runs n (suc k) t' (set_is_first_run false s')
unfolding runs
runs_on n k t t' s s' h e = rw h (ap {B = Outcome} (λ (b : Bool). elim b [ true ↦ runs n (suc k) t' (set_is_first_run false s') | false ↦ result (suc k) false t' (root_marks s'.stack) ]) e)

pub runs-end : (n k : ℕ) (t t' : Tree) (s s' : St) → run t (set_changed false s) ≡ done s' t' → s'.changed ≡ false → runs (suc n) k t s ≡ result (suc k) false t' (root_marks s'.stack)
unfolding runs
runs-end n k t t' s s' h e = rw h (rw e refl)

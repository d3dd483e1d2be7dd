-- Row 9 with a binding more; and steps one after the other. Assumes nothing.
use mathlib.Core.Path.{◌≡◌, refl, sym, ap, ◌∙◌}
use mathlib.Core.List.{List, [], ◌∷◌}
use mathlib.Core.Bool.{Bool, true, false, ◌||◌}
use Prim.Native.Nat.{ℕ, ◌+◌, ◌-◌, ◌<◌}
use native.Mathlib.Omega.{arith}
use borrow.Author.Tests.{le-ltb}
use lib.ListN.{get_or, length-append}
use lib.Dec.{ltb}
use Rattle.def_tree.specs.Base.{pick}
use Rattle.def_tree.specs.Combine.{done, stop}
use Rattle.def_pass.specs.Scope.{VarInfo, Scope, Stack, append, recorded_nodes, live}
use Rattle.def_pass.specs.Walk.{St, set_stack, grow}
use Rattle.words_scopes.specs.State.{stack, Good, Becomes}
use Rattle.words_scopes.proofs.Words.{others-self}
use Rattle.scope_find.specs.Look.{scope_at, below}
use Rattle.scope_values.specs.Steps.{over, Still, Grown, GrownLate}
use Rattle.std.proofs.Common.{Result, Ok, Err}
use Rattle.refusal.specs.declared.Refusal.{Refusal}
use Rattle.scope_values.proofs.Count.{recorded-is}
use Rattle.scope_find.proofs.Facts.{or-true}
use Rattle.scope_find.proofs.Out as out

-- a binding more
live-append : (b : VarInfo) (s : Scope) (st : Stack) → live (append b (s ∷ st)) ≡ live (s ∷ st) + 1
live-append b s st = omega (arith, length-append s.bindings (b ∷ []))

live_more : (b : VarInfo) (w : List ℕ) → Good w → 0 < get_or w 2 0 → live (append b (stack w)) ≡ live (stack w) + 1
live_more b w g z =
    let e = out.current w (get_or w 2 0 - 1) g (omega arith) in
    ap (λ (st : Stack). live (append b st)) e ∙ live-append b (scope_at w (get_or w 2 0 - 1)) (below w (get_or w 2 0 - 1)) ∙ ap (λ (n : ℕ). n + 1) (sym (ap live e))

pub no-scope : (b : VarInfo) (w : List ℕ) → get_or w 2 0 ≡ 0 → append b (stack w) ≡ stack w
no-scope b w z = rw (out.none-open w z) refl

-- no room for it: the nodes are within their limit, so the records pass theirs
pub over-append : (b : VarInfo) (w : List ℕ) → Good w → 0 < get_or w 2 0 → (ltb 512 (recorded_nodes (stack w) - 0 + 0) || ltb 256 (live (stack w) + 1)) ≡ true → over (append b (stack w)) ≡ true
over-append b w g z t =
    let few : ltb 512 (recorded_nodes (stack w) - 0 + 0) ≡ false = le-ltb 512 (recorded_nodes (stack w) - 0 + 0) (omega (arith, recorded-is w g, g.recorded)) in
    let many : ltb 256 (live (append b (stack w))) ≡ true = ap (ltb 256) (live_more b w g z) ∙ rw few at t in
    rw many (or-true (ltb 512 (recorded_nodes (append b (stack w)))))

-- steps one after the other
pub becomes-self : (w : List ℕ) → Good w → Becomes w w (stack w)
becomes-self w g = record { good = g; is = refl; tree = refl; others = others-self w; rest = refl }

pub becomes-then : {u v w : List ℕ} {s : Stack} (f : Stack → Stack) → Becomes u v s → Becomes v w (f (stack v)) → Becomes u w (f s)
becomes-then f a b = record {
  good = b.good;
  is = b.is ∙ ap f a.is;
  tree = b.tree ∙ a.tree;
  others = record { low = λ j l h. b.others.low j l h ∙ a.others.low j l h; high = λ j l h. b.others.high j l h ∙ a.others.high j l h };
  rest = b.rest ∙ a.rest;
}

-- a step where a test says so
pub step-yes : {w u v : List ℕ} {s : Stack} {p : Bool} (t : Stack) → p ≡ true → v ≡ u → Becomes w u s → Becomes w v (pick p s t)
step-yes t e q b = rw (e, q) b

pub step-no : {w v : List ℕ} {p : Bool} (s : Stack) → Good w → p ≡ false → v ≡ w → Becomes w v (pick p s (stack w))
step-no {w} s g e q = rw (e, q) (becomes-self w g)

became-still : {u v : List ℕ} {s : Stack} → Becomes u v s → Still u v
became-still a = record { good = a.good; tree = a.tree; others = a.others; rest = a.rest }

-- marks, and then a step that may be refused
pub stepped_then : {u v : List ℕ} {s : Stack} (w : List ℕ) (f : Stack → Stack) (r : Result Unit Refusal) → Becomes u v s → Grown v w (f (stack v)) r → GrownLate u w (f s) r
stepped_then w f (Ok _) a b = (becomes-then f a b.0, sym (ap (λ (t : Stack). over (f t)) a.is) ∙ b.1)
stepped_then w f (Err _) a b = (b.0, sym (ap (λ (t : Stack). over (f t)) a.is) ∙ b.1, rw b.2 (became-still a))

-- the definition's `grow`, by row 9
module _ (f : Stack → Stack) (s : St) where
  pub grow-done : over (f s.stack) ≡ false → grow f s ≡ done (set_stack (f s.stack) s) tt
  grow-done e = ap (λ (p : Bool). elim p [ true ↦ stop 9 | false ↦ done (set_stack (f s.stack) s) tt ]) e

  pub grow-stop : over (f s.stack) ≡ true → grow f s ≡ stop 9
  grow-stop e = ap (λ (p : Bool). elim p [ true ↦ stop 9 | false ↦ done (set_stack (f s.stack) s) tt ]) e

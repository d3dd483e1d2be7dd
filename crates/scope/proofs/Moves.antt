-- A step on the scopes, as the definition's step on the state of the pass; and steps one after the other. Assumes nothing.
use mathlib.Core.Path.{◌≡◌, refl, sym, ap, ◌∙◌}
use mathlib.Core.List.{List}
use mathlib.Core.Bool.{Bool, true, false}
use Prim.Native.Nat.{ℕ}
use lib.ListN.{length, get_or}
use Rattle.std.specs.Prelude.{Result, Ok, Err}
use Rattle.refusal.specs.declared.Refusal.{Refusal}
use Rattle.def_tree.specs.Combine.{Res, stop, done, Nothing, and_then}
use Rattle.def_pass.specs.Scope.{Stack}
use Rattle.def_pass.specs.Walk.{St, M, set_stack, mark, grow}
use Rattle.words.specs.Layout.{tree}
use Rattle.words.proofs.Nodes.{tree-length}
use Rattle.words_scopes.specs.State.{Becomes, stack}
use Rattle.scope_values.specs.Steps.{Grown, over}
use Rattle.words_nodes.specs.Nodes.{Planted}
use Rattle.words_state.specs.State.{rest}
use Rattle.words_state.proofs.Fields.{becomes-rest, becomes-ok, count_kept, ok-self, ok-then}
use Rattle.scope.specs.Steps.{done_of, Moves}

pub rest-stack : (w : List ℕ) → (rest w).stack ≡ stack w
unfolding rest
rest-stack w = refl

-- row 9
abbrev limited : Bool → St → Res St Nothing
limited p s = elim p [ true ↦ stop 9 | false ↦ done s tt ]

grow-by : (f : Stack → Stack) (s : St) (p : Bool) → over (f s.stack) ≡ p → grow f s ≡ limited p (set_stack (f s.stack) s)
grow-by f s p e = ap (λ (b : Bool). limited b (set_stack (f s.stack) s)) e

-- the scopes after a step
module _ {w u : List ℕ} (f : Stack → Stack) (g : Planted w) (z : length u ≡ length w) where
  stack-after : Becomes w u (f (stack w)) → set_stack (f (rest w).stack) (rest w) ≡ rest u
  stack-after b = rw (rest-stack w) (sym (becomes-rest g (count_kept b) b))

  pub mark-moves : Becomes w u (f (stack w)) → Moves w u (mark f (rest w)) (done (rest u) tt)
  mark-moves b = record { ok = becomes-ok g z b; nodes = b.tree; is = ap (λ (s : St). done s tt) (stack-after b) }

  pub grown-moves : (r : Result Unit Refusal) → Grown w u (f (stack w)) r → Moves w u (grow f (rest w)) (done_of r (rest u))
  grown-moves (Ok _) b = record {
    ok = becomes-ok g z b.0;
    nodes = b.0.tree;
    is = grow-by f (rest w) false (rw (rest-stack w) b.1) ∙ ap (λ (s : St). done s tt) (stack-after b.0);
  }
  grown-moves (Err r) b = record {
    ok = rw b.2 (ok-self g);
    nodes = ap tree b.2;
    is = grow-by f (rest w) true (rw (rest-stack w) b.1) ∙ ap (λ (n : ℕ). stop n) (sym b.0);
  }

-- nothing done
pub moves-self : {A : Type 0} {w : List ℕ} → Planted w → (a : A) → Moves w w (done (rest w) a) (done (rest w) a)
moves-self g a = record { ok = ok-self g; nodes = refl; is = refl }

-- one step after the other; a step that refuses
pub moves-then : {A B : Type 0} {w u v : List ℕ} {m : Res St A} {a : A} {r : Res St B} (f : A → M B) → Moves w u m (done (rest u) a) → Moves u v (f a (rest u)) r → Moves w v (and_then m f) r
moves-then f p q = record { ok = ok-then p.ok q.ok; nodes = q.nodes ∙ p.nodes; is = ap (λ x. and_then x f) p.is ∙ q.is }

pub moves-stop : {A B : Type 0} {w u : List ℕ} {m : Res St A} {n : ℕ} (f : A → M B) → Moves w u m (stop n) → Moves w u (and_then m f) (stop n)
moves-stop f p = record { ok = p.ok; nodes = p.nodes; is = ap (λ x. and_then x f) p.is }

pub moves-by : {A : Type 0} {w u : List ℕ} {m m' r : Res St A} → m ≡ m' → Moves w u m' r → Moves w u m r
moves-by e p = record { ok = p.ok; nodes = p.nodes; is = e ∙ p.is }

-- as many nodes as before
pub moves-count : {A : Type 0} {w u : List ℕ} {m r : Res St A} → Moves w u m r → get_or u 0 0 ≡ get_or w 0 0
moves-count {A} {w} {u} p = sym (tree-length u) ∙ ap length p.nodes ∙ tree-length w

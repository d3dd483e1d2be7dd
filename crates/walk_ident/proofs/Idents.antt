-- The walk's own steps by those of the functions here: an identifier in Analysis, and in Inlining by its fate. Assumes nothing.
use Rattle.std.specs.Prelude as std
use Rattle.std.proofs.Common.{◌≡◌, ℕ, ◌<◌, Bool, true, false, not, ◌&&◌, ◌||◌, eqb, List, length, get_or, refl, ap}
use mathlib.Core.Option.{Option, none, some}
use Rattle.def_tree.specs.Base.{pick}
use Rattle.def_tree.specs.Tree.{Tree, kind, num}
use Rattle.def_tree.specs.Combine.{Res, done, Nothing, iff, tree_at}
use Rattle.def_pass.specs.Scope.{VarInfo, Stack, find_binding, prevent_inline, add_read}
use Rattle.def_pass.specs.Walk.{St, when, mark, set_stack, cheap_o}
use Rattle.laws_flat.specs.WalkF.{test_read}
use Rattle.def_file.specs.Named.{Coded}
use Rattle.def_file.specs.declared.kind.Kind.{Kind}
use Rattle.scope_find.specs.Look.{IsKindOfValue}
use Rattle.words.specs.Layout.{node_of, tree}
use Rattle.words_scopes.specs.State.{Becomes, stack}
use Rattle.scope_values.proofs.Listed.{becomes-then}
use Rattle.words_nodes.specs.Nodes.{Planted}
use Rattle.words_nodes.proofs.Trees.{tree-at-is}
use Rattle.words_state.specs.State.{rest, abs, Act}
use Rattle.words_state.proofs.Fields.{becomes-ok}
use Rattle.walk_ident.specs.Steps.{analysis_f, costly, test_stack}
use Rattle.walk_ident.proofs.Laws.{acts-done, becomes-abs, tree-form, tree-num}

-- costly, by the binding and by the kind of its value
pub costly-none : {o : Option VarInfo} {b : VarInfo} → o ≡ some b → IsKindOfValue b.value std.None → true ≡ costly o
costly-none {o} {b} e q = rw e (go b.value q)
  where
    go : (v : Option Tree) → IsKindOfValue v std.None → true ≡ not (cheap_o v)
    go none q = refl
    go (some t) q = absurd q

pub costly-kind : {o : Option VarInfo} {b : VarInfo} (k : Kind) (p : Bool) → o ≡ some b → IsKindOfValue b.value (std.Some k) → ((n : ℕ) → Coded k n → p ≡ (eqb n 22 || eqb n 21)) → not p ≡ costly o
costly-kind {o} {b} k p e q h = rw e (go b.value q)
  where
    go : (v : Option Tree) → IsKindOfValue v (std.Some k) → not p ≡ not (cheap_o v)
    go none q = absurd q
    go (some t) q = ap not (h (kind t) q.1)

-- a read in a test
module _ (x : ℕ) (s : St) where
  abbrev after : Bool → Res St Nothing
  after b = done (set_stack (pick b (prevent_inline x s.stack) s.stack) s) tt

  by-cost : (b : Bool) → when b (mark (prevent_inline x)) s ≡ after b
  by-cost true = refl
  by-cost false = refl

  by-found : (o : Option VarInfo) → ◌≡◌ {A = Res St Nothing} (elim o [ none ↦ done s tt | some b ↦ when (not (cheap_o b.value)) (mark (prevent_inline x)) s ]) (after (costly o))
  by-found none = refl
  by-found (some b) = by-cost (not (cheap_o b.value))

  by-test : (b : Bool) → iff {A = Nothing} b (λ (s₁ : St). elim (find_binding x s₁.stack) [ none ↦ done s₁ tt | some b ↦ when (not (cheap_o b.value)) (mark (prevent_inline x)) s₁ ]) (λ (s₁ : St). done s₁ tt) s ≡ after (b && costly (find_binding x s.stack))
  by-test true = by-found (find_binding x s.stack)
  by-test false = refl

test-is : (t : Tree) (s : St) → test_read t s ≡ done (set_stack (test_stack s.in_test (num t) s.stack) s) tt
unfolding test_read
test-is t s = by-test (num t) s s.in_test

-- the scopes after it
module _ (x : ℕ) (st : Stack) (test : Bool) where
  pub test-off : test ≡ false → st ≡ test_stack test x st
  test-off e = rw e refl

  pub test_on : test ≡ true → costly (find_binding x st) ≡ true → prevent_inline x st ≡ test_stack test x st
  test_on h e = rw (h, e) refl

  pub test-cheap : costly (find_binding x st) ≡ false → st ≡ test_stack test x st
  test-cheap e = go test
    where
      go : (b : Bool) → st ≡ test_stack b x st
      go true = rw e refl
      go false = refl

-- the two steps of Analysis
module _ (w : List ℕ) (i : ℕ) (l : i < get_or w 0 0) where
  pub analysis-is : analysis_f i (abs w) ≡ done (record { nodes = tree w; rest = set_stack (add_read (node_of w i).num (eqb (node_of w i).form 1) (test_stack (rest w).in_test (node_of w i).num (stack w))) (rest w) }) tt
  unfolding rest
  analysis-is = rw (test-is (tree_at (abs w) i) (rest w)) (simp (tree-at-is, tree-num w i l, tree-form w i l) refl)

pub analysed : {w v u : List ℕ} {i x f : ℕ} → Planted w → i < get_or w 0 0 → x ≡ (node_of w i).num → f ≡ (node_of w i).form → length u ≡ length w
    → Becomes w v (test_stack (rest w).in_test x (stack w)) → Becomes v u (add_read x (eqb f 1) (stack v)) → Act w u 0 (analysis_f i (abs w))
analysed {w} {v} {u} {i} {x} {f} P l n m z a b =
    let q : add_read x (eqb f 1) (stack v) ≡ add_read (node_of w i).num (eqb (node_of w i).form 1) (test_stack (rest w).in_test (node_of w i).num (stack w)) = rw (a.is, n, m) refl in
    let d = becomes-then a (rw q at b) in
    record { ok = becomes-ok P z d; nodes = d.tree; acts = acts-done u (analysis-is w i l) (becomes-abs P d) }

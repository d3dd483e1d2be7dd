-- An identifier's steps: a constant, a value, `void 0`, or nothing. Assumes nothing.
use Rattle.std.proofs.Common.{Result, Ok}
use Rattle.refusal.specs.declared.Refusal.{Refusal}
use mathlib.Core.Path.{◌≡◌, refl, sym, ap, subst}
use mathlib.Core.Bool.{Bool, true, false, not}
use mathlib.Core.List.{List}
use mathlib.Core.Option.{Option, none, some}
use Prim.Native.Nat.{ℕ, ◌+◌}
use native.Mathlib.Omega.{arith}
use lib.Dec.{eqb}
use Rattle.def_tree.specs.Base.{pick}
use Rattle.def_tree.specs.Tree.{Tree, Core, form, num}
use Rattle.def_tree.specs.Combine.{Res, stop, done, Nothing, and_then, carry, tree_at, iff, Flat, node_at, act, put, skip}
use Rattle.def_tree.proofs.Sims.{sim-act, sim_put}
use Rattle.words.specs.Layout.{tree}
use Rattle.def_pass.specs.Tree.{void_zero}
use Rattle.def_pass.specs.Scope.{VarInfo, var_inline_prevented, find_binding, add_read}
use Rattle.def_pass.specs.Walk.{St, modify, mark, when, set_changed, tally, same_ident, replace}
use Rattle.walk_laws.specs.Shape.{Room}
use Rattle.words_state.specs.State.{rest, abs, Acts, Act}
use Rattle.laws_flat.specs.WalkF.{WalksF, test_read, inline_value_f, found_f, ident_inlining_f, ident_analysis_f, after_ident_f}
use Rattle.walk_ident.specs.Steps as steps
use Rattle.scope.specs.Handles.{value_tree, counted_o}
use Rattle.walk_ident.specs.Steps.{analysis_f, Fate, stays, undefined, inlined, fate_by, fate_of, fate_at, const_f, value_f, swap_f}
use Rattle.walk_laws.specs.Did.{Did, Here}
use Rattle.walk_laws.proofs.Heres.{here-still}
use Rattle.walk_laws.proofs.Ways.{iff-yes, iff-no, ident-by}

-- where the tree was, a tree is
module _ {w u : List ℕ} {i p d j : ℕ} (q : ℕ) (e : Tree) (h : Here w 1 i p d) where
  pub here-const : Did w u (Ok j) (const_f q e i (abs w)) → Here u 1 i p d
  here-const x = here-still (sim-act (λ t. modify (set_changed true)) (λ b. sim-act (λ t. replace q t e) (λ b. sim_put e))) h refl x

  pub here-value : Did w u (Ok j) (value_f q e i (abs w)) → Here u 1 i p d
  here-value x = here-still (sim-act (λ t. when (not (same_ident t e)) (modify (λ s. tally (num t) (set_changed true s)))) (λ b. sim-act (λ t. replace q t e) (λ b. sim_put e))) h refl x

pub here-lower : {w : List ℕ} {n i p d : ℕ} → Here w n i p (d + 1) → Here w n i p d
here-lower h = record { planted = h.planted; room = h.room; depth = omega (arith, h.depth) }

-- what was found, by what becomes of the identifier
module _ (v : WalksF) (p i : ℕ) {w u : List ℕ} {a : Result ℕ Refusal} where
  fate-stays : (b : VarInfo) (o : Option Tree) → fate_by b.is_undefined o ≡ stays → Did w u a (skip i (abs w)) → Did w u a (inline_value_f v p b o i (abs w))
  fate-stays b none e d = go b.is_undefined e
    where
      go : (c : Bool) → fate_by c none ≡ stays → Did w u a (iff c (λ st. and_then (act (λ t. replace p t void_zero) i st) (λ x. put void_zero i)) (skip i) (abs w))
      go true e = absurd (let y : ◌≡◌ {A = ℕ} 0 1 = cc in omega arith)
      go false e = d
  fate-stays b (some t) e d = absurd (let y : ◌≡◌ {A = ℕ} 0 1 = cc in omega arith)

  fate-void : (b : VarInfo) (o : Option Tree) → fate_by b.is_undefined o ≡ undefined → Did w u a (swap_f p void_zero i (abs w)) → Did w u a (inline_value_f v p b o i (abs w))
  fate-void b none e d = go b.is_undefined e
    where
      go : (c : Bool) → fate_by c none ≡ undefined → Did w u a (iff c (λ st. and_then (act (λ t. replace p t void_zero) i st) (λ x. put void_zero i)) (skip i) (abs w))
      go true e = d
      go false e = absurd (let y : ◌≡◌ {A = ℕ} 0 1 = cc in omega arith)
  fate-void b (some t) e d = absurd (let y : ◌≡◌ {A = ℕ} 0 1 = cc in omega arith)

  fate-value : (b : VarInfo) (o : Option Tree) (t : Tree) → fate_by b.is_undefined o ≡ inlined t → ((c : VarInfo) → Did w u a (inline_value_f v p c (some t) i (abs w))) → Did w u a (inline_value_f v p b o i (abs w))
  fate-value b none t e d = absurd (go b.is_undefined e)
    where
      go : (c : Bool) → fate_by c none ≡ inlined t → ⊥
      go true e = let y : ◌≡◌ {A = ℕ} 0 1 = cc in omega arith
      go false e = let y : ◌≡◌ {A = ℕ} 0 1 = cc in omega arith
  fate-value b (some s) t e d = let same : s ≡ t = cc in subst (λ (x : Tree). Did w u a (inline_value_f v p b (some x) i (abs w))) (sym same) (d b)

  -- by its binding
  fate-by : (P : Fate → Type 0) (o : Option VarInfo) → P (fate_of o) → (P stays → Did w u a (skip i (abs w))) → ((b : VarInfo) → P (fate_by b.is_undefined b.value) → Did w u a (inline_value_f v p b b.value i (abs w))) → Did w u a (found_f v p o i (abs w))
  fate-by P none e s f = s e
  fate-by P (some b) e s f = go (var_inline_prevented b) e
    where
      go : (c : Bool) → P (pick c stays (fate_by b.is_undefined b.value)) → Did w u a (iff c (skip i) (inline_value_f v p b b.value i) (abs w))
      go true e = s e
      go false e = f b e

  by-binding : Did w u a (found_f v p (find_binding (node_at (abs w) i).num (rest w).stack) i (abs w)) → Did w u a (ident_inlining_f v p i (abs w))
  unfolding ident_inlining_f
  by-binding d = d

  pub found_nothing : fate_at (abs w) i ≡ stays → Did w u a (skip i (abs w)) → Did w u a (ident_inlining_f v p i (abs w))
  found_nothing e d = by-binding (fate-by (λ x. x ≡ stays) (find_binding (node_at (abs w) i).num (rest w).stack) e (λ x. d) (λ b x. fate-stays b b.value x d))

  pub found-void : fate_at (abs w) i ≡ undefined → Did w u a (swap_f p void_zero i (abs w)) → Did w u a (ident_inlining_f v p i (abs w))
  found-void e d = by-binding (fate-by (λ x. x ≡ undefined) (find_binding (node_at (abs w) i).num (rest w).stack) e (λ x. absurd (let y : ◌≡◌ {A = ℕ} 0 1 = cc in omega arith)) (λ b x. fate-void b b.value x d))

  pub found-value : (t : Tree) → fate_at (abs w) i ≡ inlined t → ((c : VarInfo) → Did w u a (inline_value_f v p c (some t) i (abs w))) → Did w u a (ident_inlining_f v p i (abs w))
  found-value t e d = by-binding (fate-by (λ x. x ≡ inlined t) (find_binding (node_at (abs w) i).num (rest w).stack) e (λ x. absurd (let y : ◌≡◌ {A = ℕ} 0 1 = cc in omega arith)) (λ b x. fate-value b b.value t x d))

  -- no constant, by the phase
  pub no-const-inlining : steps.constant_at (abs w) i ≡ none → (rest w).inlining ≡ true → Did w u a (ident_inlining_f v p i (abs w)) → Did w u a (after_ident_f v p i (abs w))
  no-const-inlining e z d = ident-by v p i none e (iff-yes (ident_inlining_f v p i) (ident_analysis_f i) z d)

  pub no-const-analysis : steps.constant_at (abs w) i ≡ none → (rest w).inlining ≡ false → Did w u a (ident_analysis_f i (abs w)) → Did w u a (after_ident_f v p i (abs w))
  no-const-analysis e z d = ident-by v p i none e (iff-no (ident_inlining_f v p i) (ident_analysis_f i) z d)

-- what the steps answered
module _ (w : List ℕ) (i : ℕ) where
  pub const-some : {m : ℕ} → some m ≡ counted_o (steps.constant_at (abs w) i) → steps.constant_at (abs w) i ≡ some (value_tree (steps.constant_at (abs w) i))
  const-some {m} e = go (steps.constant_at (abs w) i) e
    where
      go : (o : Option Tree) → some m ≡ counted_o o → o ≡ some (value_tree o)
      go none e = absurd (let y : ◌≡◌ {A = ℕ} 0 1 = cc in omega arith)
      go (some t) e = refl

  pub const-none : none ≡ counted_o (steps.constant_at (abs w) i) → steps.constant_at (abs w) i ≡ none
  const-none e = go (steps.constant_at (abs w) i) e
    where
      go : (o : Option Tree) → ◌≡◌ {A = Option ℕ} none (counted_o o) → o ≡ none
      go none e = refl
      go (some t) e = absurd (let y : ◌≡◌ {A = ℕ} 0 1 = cc in omega arith)

-- Analysis leaves the nodes
pub here-analysis : {w u : List ℕ} {i p d : ℕ} → Here w 1 i p d → Act w u 0 (analysis_f i (abs w)) → Here u 1 i p d
here-analysis {w} {u} {i} h a = record { planted = a.ok.planted; room = subst (λ (xs : List Core). Room xs 1 i) (sym (go (test_read (tree_at (abs w) i) (rest w)) a.acts)) h.room; depth = h.depth }
  where
    go : (q : Res St Nothing) → Acts u 0 (and_then (carry {F = Flat St} (λ s a. record { nodes = tree w; rest = s }) (λ a. a) q) (λ y. act (λ t. mark (add_read (num t) (eqb (form t) 1))) i)) → tree u ≡ tree w
    go (stop m) l = absurd (omega (arith, l.1))
    go (done s x) l = ap (λ (st : Flat St). st.nodes) l.1

-- Marks by the phase. Assumes nothing.
use mathlib.Core.Path.{◌≡◌, refl, sym, ap, ◌∙◌}
use mathlib.Core.List.{List, []}
use mathlib.Core.Bool.{Bool, true, false, not}
use mathlib.Core.Option.{Option, none, some}
use Prim.Native.Nat.{ℕ, ◌<◌}
use lib.Dec.{eqb}
use lib.ListN.{get_or}
use borrow.Author.Tests.{eq-eqb, ne_eqb}
use Rattle.def_tree.specs.Base.{pick}
use Rattle.def_tree.specs.Tree.{Tree, kind, num, Core}
use Rattle.def_tree.specs.Combine.{Nothing, M, on_rest, tree_at, act}
use Rattle.def_tree.proofs.Whole.{kind_at}
use Rattle.def_pass.specs.Scope.{prevent_each, store_inline_barrier, mark_this_sensitive, ident_of}
use Rattle.def_pass.specs.Tree.{bound_names}
use Rattle.def_pass.specs.Walk.{St, when, mark, store_inline_barrier_m}
use Rattle.words.specs.Layout.{node_of}
use Rattle.words.proofs.Nodes.{tree-length, tree-at}
use Rattle.words_scopes.specs.State.{Becomes, stack}
use Rattle.scope_read_write.proofs.Limits.{becomes-self}
use Rattle.words_nodes.specs.Nodes.{Planted}
use Rattle.words_state.specs.State.{rest, abs, Act}
use Rattle.walk_write.proofs.Steps.{Step, step-act, act-step, step-as, step-none, mark-step}
use Rattle.walk_write.proofs.Writing.{num-here}

-- a step that a test lets or not
module _ {w : List ℕ} (m : M St Nothing) {b : Bool} where
  pub when-no : Planted w → b ≡ false → Step w w 0 (when b m (rest w))
  when-no g e = step-as (ap (λ (p : Bool). when p m (rest w)) (sym e)) (step-none g)

  pub when-yes : {u : List ℕ} {n : ℕ} → b ≡ true → Step w u n (m (rest w)) → Step w u n (when b m (rest w))
  when-yes e d = step-as (ap (λ (p : Bool). when p m (rest w)) (sym e)) d

module _ (w : List ℕ) (i : ℕ) (l : i < get_or w 0 0) where
  pub kind-here : kind (tree_at (abs w) i) ≡ (node_of w i).kind
  kind-here = kind_at (abs w) i (rw tree-length l) ∙ ap (λ (c : Core). c.kind) (tree-at w i l)

  -- the identifier that the tree at i is
  pub ident-none : ((node_of w i).kind ≡ 21 → ⊥) → ident_of (some (tree_at (abs w) i)) ≡ none
  ident-none h = ap (λ (p : Bool). pick p (some (num (tree_at (abs w) i))) none) (ap (λ (k : ℕ). eqb k 21) kind-here ∙ ne_eqb (node_of w i).kind 21 h)

  pub ident-some : {x : ℕ} → (node_of w i).kind ≡ 21 → x ≡ (node_of w i).num → ident_of (some (tree_at (abs w) i)) ≡ some x
  ident-some {x} e q = ap (λ (p : Bool). pick p (some (num (tree_at (abs w) i))) none) (ap (λ (k : ℕ). eqb k 21) kind-here ∙ eq-eqb (node_of w i).kind 21 e) ∙ ap (λ (a : ℕ). some a) (num-here w i l ∙ sym q)

  abbrev callee : Tree → M St Nothing
  callee c s = when (not s.inlining) (mark (mark_this_sensitive (ident_of (some c)))) s

  pub callee-off : Planted w → (rest w).inlining ≡ true → Act w w 0 (act callee i (abs w))
  callee-off g h = step-act (callee (tree_at (abs w) i)) (when-no (mark (mark_this_sensitive (ident_of (some (tree_at (abs w) i))))) g (ap not h))

  pub callee-on : {u : List ℕ} (o : Option ℕ) → Planted w → (rest w).inlining ≡ false → ident_of (some (tree_at (abs w) i)) ≡ o → Becomes w u (mark_this_sensitive o (stack w)) → Act w u 0 (act callee i (abs w))
  callee-on {u} o g z e b = step-act (callee (tree_at (abs w) i)) (when-yes (mark (mark_this_sensitive (ident_of (some (tree_at (abs w) i))))) (ap not z) (mark-step g (mark_this_sensitive (ident_of (some (tree_at (abs w) i)))) (rw (sym e) at b)))

pub callee-other : {w : List ℕ} (i : ℕ) → i < get_or w 0 0 → Planted w → (rest w).inlining ≡ false → ((node_of w i).kind ≡ 21 → ⊥) → Act w w 0 (act (λ c s. when (not s.inlining) (mark (mark_this_sensitive (ident_of (some c)))) s) i (abs w))
callee-other {w} i l g z h = callee-on w i l none g z (ident-none w i l h) (becomes-self w g.good)

-- the parameter of a catch clause
abbrev caught : Tree → M St Nothing
caught b s = when (not s.inlining) (mark (prevent_each (bound_names b []))) s

module _ {w : List ℕ} (i : ℕ) where
  pub caught-off : Planted w → (rest w).inlining ≡ true → Act w w 0 (act caught i (abs w))
  caught-off g h = step-act (caught (tree_at (abs w) i)) (when-no (mark (prevent_each (bound_names (tree_at (abs w) i) []))) g (ap not h))

  pub caught-on : {u : List ℕ} → (rest w).inlining ≡ false → Act w u 0 (act (λ t. mark (prevent_each (bound_names t []))) i (abs w)) → Act w u 0 (act caught i (abs w))
  caught-on z a = step-act (caught (tree_at (abs w) i)) (when-yes (mark (prevent_each (bound_names (tree_at (abs w) i) []))) (ap not z) (act-step (mark (prevent_each (bound_names (tree_at (abs w) i) []))) a))

-- a barrier
module _ {w : List ℕ} (g : Planted w) where
  pub barrier-off : (rest w).inlining ≡ true → Act w w 0 (on_rest store_inline_barrier_m (abs w))
  unfolding store_inline_barrier_m
  barrier-off h = step-act store_inline_barrier_m (step-as (rw h refl) (step-none g))

  pub barrier-on : {u : List ℕ} → (rest w).inlining ≡ false → Becomes w u (store_inline_barrier (stack w)) → Act w u 0 (on_rest store_inline_barrier_m (abs w))
  unfolding store_inline_barrier_m
  barrier-on z b = step-act store_inline_barrier_m (step-as (rw z refl) (mark-step g store_inline_barrier b))

-- What becomes of an identifier, from the words of its binding; the constant that it names. Assumes nothing.
use Rattle.std.specs.Option.{option_eq}
use Rattle.std.specs.Prelude as std
use Rattle.std.proofs.Common.{◌≡◌, ℕ, ◌<◌, Bool, true, false, ◌&&◌, eqb, List, get_or, sym, refl, ap, ◌∙◌, arith}
use mathlib.Core.Option.{Option, none, some}
use Rattle.def_tree.specs.Base.{pick}
use Rattle.def_tree.specs.Tree.{Tree, num, count, Core}
use Rattle.def_tree.specs.Combine.{node_at}
use Rattle.def_pass.specs.Tree.{count_o, is_ident}
use Rattle.def_pass.specs.Scope.{VarInfo, find_binding, find_constant, var_inline_prevented, value_o}
use Rattle.def_pass.specs.Walk.{same_ident}
use Rattle.words.specs.Layout.{node_of}
use Rattle.words.proofs.Nodes.{tree-at}
use Rattle.words_scopes.specs.State.{name_of, stack}
use Rattle.scope.specs.Steps.{named}
use Rattle.words_state.specs.State.{rest, abs}
use Rattle.scope.specs.Handles.{of_binding, value_tree, counted_o}
use Rattle.scope.proofs.Numbers.{count_none}
use Rattle.words_nodes.proofs.Trees.{count-some}
use Rattle.walk_ident.specs.Steps.{stays, undefined, inlined, fate_of, fate_at, constant_at}

-- the fate by the binding, if there is one
pub fate-prevented : (o : Option VarInfo) → of_binding var_inline_prevented o ≡ true → fate_of o ≡ stays
fate-prevented none e = refl
fate-prevented (some b) e = rw e refl

pub fate-value : (o : Option VarInfo) → of_binding var_inline_prevented o ≡ false → (t : Tree) → value_o o ≡ some t → fate_of o ≡ inlined t
fate-value none e t q = absurd (omega (arith, ap count_o q, count-some t))
fate-value (some b) e t q = rw (e, q) refl

pub fate-none : (o : Option VarInfo) → of_binding var_inline_prevented o ≡ false → count_o (value_o o) ≡ 0 → fate_of o ≡ pick (of_binding (λ v. v.is_undefined) o) undefined stays
fate-none none e z = refl
fate-none (some b) e z = rw (e, count_none b.value z) refl

module _ (w : List ℕ) (i x : ℕ) (l : i < get_or w 0 0) (n : x ≡ (node_of w i).num) where
  name : (node_at (abs w) i).num ≡ x
  name = ap (λ (c : Core). c.num) (tree-at w i l) ∙ sym n

  pub fate-at : (o : Option VarInfo) → find_binding x (stack w) ≡ o → fate_at (abs w) i ≡ fate_of o
  unfolding rest
  fate-at o q = ap (λ (y : ℕ). fate_of (find_binding y (stack w))) name ∙ ap fate_of q

  const-here : find_constant (node_at (abs w) i).num (rest w).stack ≡ find_constant x (stack w)
  unfolding rest
  const-here = ap (λ (y : ℕ). find_constant y (stack w)) name

  pub const-at : (rest w).is_first_run ≡ true → constant_at (abs w) i ≡ find_constant x (stack w)
  const-at z = ap (λ (b : Bool). pick b (find_constant (node_at (abs w) i).num (rest w).stack) none) z ∙ const-here

pub const-later : (w : List ℕ) (i : ℕ) → (rest w).is_first_run ≡ false → constant_at (abs w) i ≡ none
const-later w i z = rw z refl

-- a constant that is there was looked for
pub const-now : (w : List ℕ) (i x : ℕ) {m : ℕ} → i < get_or w 0 0 → x ≡ (node_of w i).num → some m ≡ counted_o (constant_at (abs w) i) → (find_constant x (stack w) ≡ some (value_tree (constant_at (abs w) i))) × (m ≡ count (value_tree (constant_at (abs w) i)))
const-now w i x {m} l n e = (sym (const-at w i x l n (first (rest w).is_first_run refl)) ∙ some_of (constant_at (abs w) i) e, size (constant_at (abs w) i) e)
  where
    gone : {A : Type 0} {m : ℕ} → ◌≡◌ {A = Option ℕ} (some m) none → A
    gone e = absurd (let y : ◌≡◌ {A = ℕ} 0 1 = cc in omega arith)

    first : (b : Bool) → (rest w).is_first_run ≡ b → (rest w).is_first_run ≡ true
    first true q = q
    first false q = gone (e ∙ ap counted_o (const-later w i q))

    some_of : (o : Option Tree) → some m ≡ counted_o o → o ≡ some (value_tree o)
    some_of none e = gone e
    some_of (some t) e = refl

    size : (o : Option Tree) → some m ≡ counted_o o → m ≡ count (value_tree o)
    size none e = gone e
    size (some t) e = cc

-- the same identifier, by the identifier that a value is
pub same-is : (x : ℕ) (e : Tree) (v : Option Tree) → v ≡ some e → (r : std.Option ℕ) → r ≡ name_of v → option_eq eqb r (std.Some x) ≡ same_ident (named 0 x) e
same-is x e v q r m = ap (λ (k : std.Option ℕ). option_eq eqb k (std.Some x)) (m ∙ ap name_of q) ∙ by (is_ident e)
  where
    by : (b : Bool) → option_eq eqb (pick b (std.Some (num e)) std.None) (std.Some x) ≡ (b && eqb (num e) x)
    by true = refl
    by false = refl

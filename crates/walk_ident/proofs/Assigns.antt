-- `=` in Inlining by the words: its parts, its test, and the first value recorded. Assumes nothing.
use Rattle.std.proofs.Common.{◌≡◌, Result, Ok, Err, ℕ, zero, suc, ◌+◌, ◌<◌, ◌≤◌, Bool, true, false, not, ◌&&◌, List, length, get_or, drop, sym, refl, ap, ◌∙◌, add-one, arith, drop-cons, eq-eqb, ne_eqb}
use mathlib.Core.Option.{Option, none, some}
use Rattle.def_tree.specs.Tree.{Tree, Forest, nil, cons, kind, num, kids, tail_f, Core, no_core, count, take_f, plant}
use Rattle.def_tree.specs.Combine.{Res, stop, done, Nothing, and_then, iff, Flat, tree_at, skip, carry}
use Rattle.def_tree.proofs.Whole as whole
use Rattle.def_tree.proofs.Place.{append_f}
use Rattle.def_pass.specs.Tree.{head_t}
use Rattle.def_pass.specs.Scope.{VarInfo, Stack, find_binding_from_current, is_inline_prevented, var_inline_prevented, change, defined, with_value}
use Rattle.def_pass.specs.Walk.{St, set_stack}
use Rattle.laws_flat.specs.WalkF.{after_assign_f, after_sides_f, first_to}
use Rattle.words.specs.Layout.{node_of, tree}
use Rattle.words.proofs.Nodes.{tree-length, tree-at}
use Rattle.words_scopes.specs.State.{Becomes, stack}
use Rattle.refusal.specs.declared.Refusal.{Refusal}
use Rattle.scope_values.specs.Steps.{over, Grown}
use Rattle.scope.specs.Steps.{Did}
use Rattle.scope_find.specs.Look.{node_tree}
use Rattle.words_nodes.specs.Nodes.{Planted, Child, tree_from, forest_from}
use Rattle.words_nodes.proofs.Trees.{tree-at-is, child-lt, child-next}
use Rattle.words_nodes.proofs.Loops.{forest-first}
use Rattle.words_nodes.proofs.Words.{tree-whole}
use Rattle.words_nodes.proofs.Walks.{second-child, skip_is}
use Rattle.words_state.specs.State.{rest, abs}
use Rattle.words_state.proofs.Fields.{becomes-ok, ok-self, ok-then}
use Rattle.scope.specs.Handles.{of_binding}
use Rattle.walk_ident.specs.Steps.{first_test, first_f, swap_f}
use Rattle.walk_ident.proofs.Laws.{becomes-abs, tree-kind, tree-num}

-- the first and the second of some trees
head-take : (n m : ℕ) (ts : Forest) → 0 < n → 0 < m → head_t (take_f n ts) ≡ head_t (take_f m ts)
head-take zero m ts h k = absurd (omega arith)
head-take (suc n) zero ts h k = absurd (omega arith)
head-take (suc n) (suc m) nil h k = refl
head-take (suc n) (suc m) (cons t ts) h k = refl

second-take : (n : ℕ) (ts : Forest) → 1 < n → head_t (tail_f (take_f n ts)) ≡ head_t (tail_f (take_f 2 ts))
second-take zero ts h = absurd (omega arith)
second-take (suc n) nil h = refl
second-take (suc n) (cons t ts) h = head-take n 1 ts (omega arith) (omega arith)

second_none : (n : ℕ) (ts : Forest) → n ≤ 1 → head_t (tail_f (take_f n ts)) ≡ none
second_none zero ts h = refl
second_none (suc zero) nil h = refl
second_none (suc zero) (cons t ts) h = refl
second_none (suc (suc n)) ts h = absurd (omega arith)

-- the test, by the binding found
pub first-is : (o : Option VarInfo) (q : Bool) → first_test o q ≡ (of_binding (λ (v : VarInfo). v.is_undefined) o && not (of_binding var_inline_prevented o) && not q)
first-is none q = refl
first-is (some b) q = refl

-- the parts of node i
module _ {w : List ℕ} (P : Planted w) (i : ℕ) (l : i < get_or w 0 0) where
  abbrev xs : List Core
  xs = tree w

  inside : i < length xs
  inside = rw tree-length l

  arity : (get_or xs i no_core).arity ≡ (node_of w i).arity
  arity = ap (λ (c : Core). c.arity) (tree-at w i l)

  kids-from : kids (tree_from xs i) ≡ forest_from xs (get_or xs i no_core).arity (i + 1)
  unfolding tree_from forest_from
  kids-from = rw (drop-cons xs i no_core inside, add-one) refl

  kids-are : kids (tree_at (abs w) i) ≡ forest_from xs (node_of w i).arity (i + 1)
  kids-are = ap kids (tree-at-is (abs w) i) ∙ kids-from ∙ ap (λ (n : ℕ). forest_from xs n (i + 1)) arity

  pub assign-few : (p : ℕ) → (node_of w i).arity ≤ 1 → after_assign_f p i (abs w) ≡ skip i (abs w)
  unfolding after_assign_f forest_from
  assign-few p h =
      ap (λ (ts : Forest). after_sides_f p (head_t ts) (head_t (tail_f ts)) i (abs w)) kids-are
      ∙ rw (second_none (node_of w i).arity (plant (drop (i + 1) xs)) h) (alone (head_t (forest_from xs (node_of w i).arity (i + 1))))
    where
      alone : (o : Option Tree) → after_sides_f p o none i (abs w) ≡ skip i (abs w)
      alone none = refl
      alone (some t) = refl

  module _ (h : 1 < (node_of w i).arity) where
    first-child : Child xs i 0 (i + 1)
    unfolding forest_from
    first-child = record { parent = inside; few = omega (arith, arity); at = omega arith }

    pub target-in : i + 1 < get_or w 0 0
    target-in = rw tree-length at (child-lt first-child (whole.whole_drop i xs (tree-whole P))).1

    abbrev j : ℕ
    j = i + 1 + count (tree_from xs (i + 1))

    pub value-child : Child xs i 1 (i + 1 + count (tree_from xs (i + 1)))
    value-child = second-child xs i (omega (arith, arity)) (rw tree-length target-in)

    pub value_in : i + 1 + count (tree_from xs (i + 1)) < get_or w 0 0
    value_in = rw tree-length at (child-lt value-child (whole.whole_drop i xs (tree-whole P))).1

    two : forest_from xs 2 (i + 1) ≡ cons (tree_from xs (i + 1)) (cons (tree_from xs j) nil)
    two = child-next value-child (whole.whole_drop i xs (tree-whole P)) ∙ ap (λ (ts : Forest). append_f ts (cons (tree_from xs j) nil)) (forest-first xs (i + 1) (rw tree-length target-in))

    sides-are : (p : ℕ) → after_assign_f p i (abs w) ≡ after_sides_f p (some (tree_from xs (i + 1))) (some (tree_from xs j)) i (abs w)
    unfolding after_assign_f forest_from
    sides-are p =
        let n : ℕ = (node_of w i).arity in
        let ts : Forest = plant (drop (i + 1) xs) in
        ap (λ (ts : Forest). after_sides_f p (head_t ts) (head_t (tail_f ts)) i (abs w)) kids-are
        ∙ rw (head-take n 2 ts (omega arith) (omega arith), second-take n ts h) (ap (λ (ts : Forest). after_sides_f p (head_t ts) (head_t (tail_f ts)) i (abs w)) two)

    abbrev r : Tree
    r = tree_from xs j

    module _ (p : ℕ) where
      pub assign_other : ((node_of w (i + 1)).kind ≡ 20 → ⊥) → after_assign_f p i (abs w) ≡ skip i (abs w)
      assign_other e = sides-are p ∙ rw (tree-kind w (i + 1) target-in, ne_eqb (node_of w (i + 1)).kind 20 e) refl

      module _ (e : (node_of w (i + 1)).kind ≡ 20) (x : ℕ) (n : x ≡ (node_of w (i + 1)).num) where
        abbrev tested : Bool → Res (Flat St) ℕ
        tested q = iff q (first_f p x r i) (skip i) (abs w)

        by-binding : (o : Option VarInfo) → first_to p (tree_from xs (i + 1)) r o i (abs w) ≡ tested (first_test o (is_inline_prevented r (stack w)))
        unfolding rest
        by-binding none = refl
        by-binding (some b) = rw (n, tree-num w (i + 1) target-in) refl

        pub assign-is : after_assign_f p i (abs w) ≡ tested (first_test (find_binding_from_current x (stack w)) (is_inline_prevented (node_tree w j) (stack w)))
        unfolding rest node_tree tree_from
        assign-is =
            sides-are p
            ∙ ap (λ (q : Bool). iff q (λ st. first_to p (tree_from xs (i + 1)) r (find_binding_from_current (num (tree_from xs (i + 1))) st.rest.stack) i st) (skip i) (abs w)) (eq-eqb (kind (tree_from xs (i + 1))) 20 (tree-kind w (i + 1) target-in ∙ e))
            ∙ by-binding (find_binding_from_current (num (tree_from xs (i + 1))) (stack w))
            ∙ ap (λ (y : ℕ). tested (first_test (find_binding_from_current y (stack w)) (is_inline_prevented r (stack w)))) (tree-num w (i + 1) target-in ∙ sym n)

        module _ (k : ℕ) (q : k ≡ i + 1 + count (tree_from xs (i + 1))) where
          abbrev test : Bool
          test = first_test (find_binding_from_current x (stack w)) (is_inline_prevented (node_tree w k) (stack w))

          by-test : {b : Bool} → test ≡ b → after_assign_f p i (abs w) ≡ tested b
          by-test c = assign-is ∙ ap (λ (y : ℕ). tested (first_test (find_binding_from_current x (stack w)) (is_inline_prevented (node_tree w y) (stack w)))) (sym q) ∙ ap tested c

          pub assign-not : test ≡ false → after_assign_f p i (abs w) ≡ skip i (abs w)
          assign-not c = by-test c

          pub assign-first : test ≡ true → after_assign_f p i (abs w) ≡ first_f p x (tree_from xs k) i (abs w)
          assign-first c = by-test c ∙ ap (λ (y : ℕ). first_f p x (tree_from xs y) i (abs w)) (sym q)

-- answers
pub goes-as : {w u : List ℕ} {a : Result ℕ Refusal} {f g : Res (Flat St) ℕ} → f ≡ g → Did w u a g → Did w u a f
goes-as e d = record { ok = d.ok; is = e ∙ d.is }

pub goes-past : {w : List ℕ} (i : ℕ) {k : ℕ} {f : Res (Flat St) ℕ} → Planted w → f ≡ skip i (abs w) → k ≡ i + count (tree_from (tree w) i) → Did w w (Ok k) f
goes-past {w} i P e q = record { ok = ok-self P; is = e ∙ skip_is (abs w) i ∙ ap (done (abs w)) (sym q) }

-- the first value recorded, and row 9
module _ (w : List ℕ) (p x : ℕ) (r : Tree) (i : ℕ) where
  abbrev st : Stack
  st = change x (λ c. defined (with_value (some r) c)) (stack w)

  abbrev grown : Bool → Res (Flat St) ℕ
  grown b = and_then {A = Nothing} (carry {S = St} {A = Nothing} (λ s a. record { nodes = tree w; rest = s }) (λ a. a) (elim b [ true ↦ stop 9 | false ↦ done (set_stack st (rest w)) tt ])) (λ a. swap_f p r i)

  by : {b : Bool} → over st ≡ b → first_f p x r i (abs w) ≡ grown b
  unfolding rest
  by e = ap grown e

  pub first-over : over st ≡ true → first_f p x r i (abs w) ≡ stop 9
  first-over e = by e

  pub first-grown : over st ≡ false → first_f p x r i (abs w) ≡ swap_f p r i (record { nodes = tree w; rest = set_stack st (rest w) })
  first-grown e = by e

-- recorded, or refused by row 9; v is the value as the words have it
module _ {w u : List ℕ} (p x : ℕ) (e : Tree) (i : ℕ) (P : Planted w) (z : length u ≡ length w) (v : Option Tree) (q : v ≡ some e) where
  pub first-stop : (r : Refusal) → Grown w u (change x (λ c. defined (with_value v c)) (stack w)) (Err r) → Did w u (Err r) (first_f p x e i (abs w))
  first-stop r g =
      let o : over (change x (λ c. defined (with_value (some e) c)) (stack w)) ≡ true = rw q at g.1 in
      record { ok = rw g.2 (ok-self P); is = first-over w p x e i o ∙ ap (λ (n : ℕ). stop n) (sym g.0) }

  pub first_on : {y : List ℕ} {a : Result ℕ Refusal} {t : Tree} → Grown w u (change x (λ c. defined (with_value v c)) (stack w)) (Ok tt) → t ≡ e → Did u y a (swap_f p t i (abs u)) → Did w y a (first_f p x e i (abs w))
  first_on {y} {a} {t} g k d =
      let o : over (change x (λ c. defined (with_value (some e) c)) (stack w)) ≡ false = rw q at g.1 in
      let b : Becomes w u (change x (λ c. defined (with_value (some e) c)) (stack w)) = rw q at g.0 in
      let f : first_f p x e i (abs w) ≡ swap_f p t i (abs u) = first-grown w p x e i o ∙ ap (swap_f p e i) (sym (becomes-abs P b)) ∙ ap (λ (r : Tree). swap_f p r i (abs u)) (sym k) in
      record { ok = ok-then (becomes-ok P z b) d.ok; is = f ∙ d.is }

-- What is passed at once: a node without a handler of its own, and one without a step behind its handler. Assumes nothing.
use Rattle.std.proofs.Common.{Result, Ok}
use Rattle.refusal.specs.declared.Refusal.{Refusal}
use mathlib.Core.Path.{◌≡◌, refl, sym, ap, ◌∙◌}
use mathlib.Core.Bool.{Bool, true, false, not, ◌&&◌, ◌||◌}
use mathlib.Core.List.{List}
use mathlib.Core.Logic.{◌⊎◌, ⊎_elim, inl, inr}
use Prim.Native.Nat.{ℕ, zero, suc, ◌+◌, ◌-◌}
use native.Mathlib.Omega.{arith}
use lib.Dec.{eqb}
use borrow.Author.Tests.{eqb-true, eq-eqb, ne_eqb}
use Rattle.def_tree.specs.Tree.{Core, count}
use Rattle.def_tree.specs.Combine.{node_at, tree_at, many}
use Rattle.words.specs.Layout.{tree, node_of}
use Rattle.def_file.specs.Named.{kind_of}
use Rattle.def_pass.specs.Walk.{h_plain, handler_of, to_pattern}
use Rattle.words_nodes.specs.Nodes.{tree_from}
use Rattle.words_state.specs.State.{abs}
use Rattle.laws_flat.specs.WalkF.{WalksF, walks_f, handle_f, plain_f, own_f, after_f, after_ident_f}
use Rattle.laws_flat.specs.PassF.{some! }
use Rattle.laws_flat.proofs.Sim.{sims, sim-own}
use Rattle.laws_flat.proofs.Bounds.{pattern-at}
use Rattle.walk_laws.specs.Did.{Did, Here, bare_node, leaf_node, settled_node}
use Rattle.walk_laws.proofs.Laws.{many-none}
use Rattle.walk_laws.proofs.Heres.{walk_end, here-one, here-kids}
use Rattle.walk_laws.proofs.Ways.{node-is, on-kids, own-by, kind-yes, form-yes, form-no, full-then, first-no, second-no, after-ident, after-logic, logic-other}

never : ◌≡◌ {A = Bool} false true → ⊥
never e = let y : ◌≡◌ {A = ℕ} 0 1 = cc in omega arith

-- what the tests say
bare_parts : (a b c : Bool) → (a && (b || c)) ≡ true → (a ≡ true) × ((b ≡ true) ⊎ (c ≡ true))
bare_parts true true c e = (refl, inl refl)
bare_parts true false true e = (refl, inr refl)
bare_parts true false false e = absurd (never e)
bare_parts false b c e = absurd (never e)

settled-parts : (a b c : Bool) → (not a && (not b && not c)) ≡ true → (a ≡ false) × (b ≡ false) × (c ≡ false)
settled-parts false false false e = (refl, refl, refl)
settled-parts false false true e = absurd (never e)
settled-parts false true c e = absurd (never e)
settled-parts true b c e = absurd (never e)

plain-kind : (k : ℕ) → (eqb k 21 ≡ true) ⊎ (eqb k 22 ≡ true) → handler_of (kind_of k) ≡ h_plain
plain-kind k o = ⊎_elim (λ e. ap (λ (m : ℕ). handler_of (kind_of m)) (eqb-true k 21 e)) (λ e. ap (λ (m : ℕ). handler_of (kind_of m)) (eqb-true k 22 e)) o

-- of these two, what is no identifier has no step behind it
literal : (k : ℕ) → (eqb k 21 ≡ true) ⊎ (eqb k 22 ≡ true) → (k ≡ 21 → ⊥) → (not (eqb k 21) && (not (eqb k 32) && not (eqb k 33))) ≡ true
literal k o z = ⊎_elim (λ e. absurd (z (eqb-true k 21 e))) (λ e. ap (λ (m : ℕ). not (eqb m 21) && (not (eqb m 32) && not (eqb m 33))) (eqb-true k 22 e)) o

-- an empty statement and a `this`: no handler of their own, and no step behind it
leaf_plain : (k : ℕ) → (eqb k 3 ≡ true) ⊎ (eqb k 26 ≡ true) → handler_of (kind_of k) ≡ h_plain
leaf_plain k o = ⊎_elim (λ e. ap (λ (m : ℕ). handler_of (kind_of m)) (eqb-true k 3 e)) (λ e. ap (λ (m : ℕ). handler_of (kind_of m)) (eqb-true k 26 e)) o

leaf_settled : (k : ℕ) → (eqb k 3 ≡ true) ⊎ (eqb k 26 ≡ true) → (not (eqb k 21) && (not (eqb k 32) && not (eqb k 33))) ≡ true
leaf_settled k o = ⊎_elim (λ e. ap (λ (m : ℕ). not (eqb m 21) && (not (eqb m 32) && not (eqb m 33))) (eqb-true k 3 e)) (λ e. ap (λ (m : ℕ). not (eqb m 21) && (not (eqb m 32) && not (eqb m 33))) (eqb-true k 26 e)) o

module _ (v : WalksF) {w : List ℕ} {i p d : ℕ} (h : Here w 1 i p d) where
  -- a node without children and without a handler of its own
  childless : eqb (node_of w i).arity 0 ≡ true → handler_of (kind_of (node_of w i).kind) ≡ h_plain → Did w w (Ok (i + 1)) (own_f v p i (abs w))
  unfolding handle_f plain_f
  childless a k = own-by v h_plain h refl k (on-kids (λ q. many (v.full q)) h (sym (eqb-true (node_of w i).arity 0 a)) (many-none (v.full (p + 1)) (i + 1) h.planted))

  pub bare-own : bare_node (node_of w i) ≡ true → Did w w (Ok (i + 1)) (own_f v p i (abs w))
  bare-own b =
      let s = bare_parts (eqb (node_of w i).arity 0) (eqb (node_of w i).kind 21) (eqb (node_of w i).kind 22) b in
      childless s.0 (plain-kind (node_of w i).kind s.1)

  pub settled-after : {j : ℕ} → settled_node (node_of w i) ≡ true → j ≡ i + count (tree_from (tree w) i) → Did w w (Ok j) (after_f v p i (abs w))
  settled-after b e =
      let s = settled-parts (eqb (node_of w i).kind 21) (eqb (node_of w i).kind 32) (eqb (node_of w i).kind 33) b in
      let at : (m : ℕ) → eqb (node_of w i).kind m ≡ false → eqb (node_at (abs w) i).kind m ≡ false = λ m x. ap (λ (c : Core). eqb c.kind m) (node-is h) ∙ x in
      after-logic v p i (at 21 s.0) (first-no _ (at 33 s.2)) (logic-other v p i h.planted (at 32 s.1) e)

module _ {w : List ℕ} {i p l : ℕ} (h : Here w 1 i p (l - 1 + 1)) (z : l ≡ 0 → ⊥) (b : bare_node (node_of w i) ≡ true) where
  -- an identifier without children: its steps alone
  pub bare-ident : {u : List ℕ} {a : Result ℕ Refusal} {k : ℕ} → k ≡ (node_of w i).kind → k ≡ 21 → Did w u a (after_ident_f (walks_f (l - 1)) p i (abs w)) → Did w u a ((walks_f l).full p i (abs w))
  bare-ident e q d = full-then p i l z (bare-own (walks_f (l - 1)) h b) (after-ident (walks_f (l - 1)) p i (kind-yes h e q) d)

  -- a literal: past it
  pub bare-other : {k : ℕ} → k ≡ (node_of w i).kind → (k ≡ 21 → ⊥) → Did w w (Ok (i + 1)) ((walks_f l).full p i (abs w))
  bare-other e q =
      let s = bare_parts (eqb (node_of w i).arity 0) (eqb (node_of w i).kind 21) (eqb (node_of w i).kind 22) b in
      let o = bare-own (walks_f (l - 1)) h b in
      full-then p i l z o (settled-after (walks_f (l - 1)) h (literal (node_of w i).kind s.1 (λ x. q (e ∙ x))) (walk_end (sim-own (sims (l - 1)) p) h o))

-- an empty statement or a `this`: past it
pub leaf-over : {w : List ℕ} {i p l : ℕ} → Here w 1 i p (l - 1 + 1) → (l ≡ 0 → ⊥) → leaf_node (node_of w i) ≡ true → Did w w (Ok (i + 1)) ((walks_f l).full p i (abs w))
leaf-over {w} {i} {p} {l} h z b =
    let s = bare_parts (eqb (node_of w i).arity 0) (eqb (node_of w i).kind 3) (eqb (node_of w i).kind 26) b in
    let o = childless (walks_f (l - 1)) h s.0 (leaf_plain (node_of w i).kind s.1) in
    full-then p i l z o (settled-after (walks_f (l - 1)) h (leaf_settled (node_of w i).kind s.1) (walk_end (sim-own (sims (l - 1)) p) h o))

-- the two tests, by what was read of a node
module _ (c : Core) where
  pub bare-no : {a : ℕ} → a ≡ c.arity → (a ≡ 0 → ⊥) → false ≡ bare_node c
  bare-no e z = rw (ne_eqb c.arity 0 (λ x. z (e ∙ x))) refl

  pub bare-name : {a k : ℕ} → a ≡ c.arity → a ≡ 0 → k ≡ c.kind → k ≡ 21 → true ≡ bare_node c
  bare-name e z f q = rw (eq-eqb c.arity 0 (sym e ∙ z), eq-eqb c.kind 21 (sym f ∙ q)) refl

  pub bare-by : {a k : ℕ} → a ≡ c.arity → a ≡ 0 → k ≡ c.kind → (k ≡ 21 → ⊥) → eqb k 22 ≡ bare_node c
  bare-by e z f q = rw (eq-eqb c.arity 0 (sym e ∙ z), ne_eqb c.kind 21 (λ x. q (f ∙ x))) (ap (λ (m : ℕ). eqb m 22) f)

  pub settled-name : {k : ℕ} → k ≡ c.kind → k ≡ 21 → false ≡ settled_node c
  settled-name f q = rw (eq-eqb c.kind 21 (sym f ∙ q)) refl

  pub settled-logic : {k : ℕ} → k ≡ c.kind → (k ≡ 21 → ⊥) → k ≡ 32 → false ≡ settled_node c
  settled-logic f q s = rw (ne_eqb c.kind 21 (λ x. q (f ∙ x)), eq-eqb c.kind 32 (sym f ∙ s)) refl

  pub settled-by : {k : ℕ} → k ≡ c.kind → (k ≡ 21 → ⊥) → (k ≡ 32 → ⊥) → not (eqb k 33) ≡ settled_node c
  settled-by f q s = rw (ne_eqb c.kind 21 (λ x. q (f ∙ x)), ne_eqb c.kind 32 (λ x. s (f ∙ x))) (ap (λ (m : ℕ). not (eqb m 33)) f)

-- an assignment to a pattern, by what was read of its node and of the next one
module _ {w : List ℕ} {i : ℕ} (h : Here w 1 i 0 0) where
  abbrev to : Bool
  to = to_pattern (tree_at (abs w) i)

  abbrev at_object : Bool
  at_object = eqb (node_at (abs w) (i + 1)).kind 45 || eqb (node_at (abs w) (i + 1)).kind 46

  pub pattern-form : {f : ℕ} → f ≡ (node_of w i).form → (f ≡ 0 → ⊥) → false ≡ to
  pattern-form e z = sym (pattern-at (abs w) i ∙ first-no (some! (node_at (abs w) i).arity && at_object) (form-no h 0 e z))

  module _ {a : ℕ} (e : a ≡ (node_of w i).arity) where
    arity-is : some! (node_at (abs w) i).arity ≡ some! a
    arity-is = ap some! (ap (λ (c : Core). c.arity) (node-is h) ∙ sym e)

    pub pattern-none : a ≡ 0 → false ≡ to
    pattern-none z = sym (pattern-at (abs w) i ∙ second-no (eqb (node_at (abs w) i).form 0) (first-no at_object (arity-is ∙ ap some! z)))

    -- the first child
    pub pattern-child : (a ≡ 0 → ⊥) → Here w 1 (i + 1) 1 0
    pattern-child z = let deep : Here w 1 i 0 (0 + 1) = record { planted = h.planted; room = h.room; depth = omega arith } in here-one z (here-kids deep e)

    pub pattern-by : {f : ℕ} {b : Bool} → f ≡ (node_of w i).form → f ≡ 0 → (a ≡ 0 → ⊥) → b ≡ (eqb (node_of w (i + 1)).kind 45 || eqb (node_of w (i + 1)).kind 46) → b ≡ to
    pattern-by {f} {b} x y z q =
        sym (pattern-at (abs w) i
        ∙ ap (λ (p : Bool). p && (some! (node_at (abs w) i).arity && at_object)) (form-yes h x y)
        ∙ ap (λ (p : Bool). p && at_object) (arity-is ∙ more a z)
        ∙ ap (λ (c : Core). eqb c.kind 45 || eqb c.kind 46) (node-is (pattern-child z)) ∙ sym q)
      where
        more : (n : ℕ) → (n ≡ 0 → ⊥) → some! n ≡ true
        more zero z = absurd (z refl)
        more (suc n) z = refl

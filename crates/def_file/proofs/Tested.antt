-- The tests of a node at its place (row 6), one by one, and what they say of a literal. Assumes nothing.
use mathlib.Core.Path.{◌≡◌, refl, sym, ap, ◌∙◌, subst}
use mathlib.Core.Bool.{Bool, true, false, ◌&&◌, ◌||◌}
use Prim.Native.Nat.{ℕ, ◌≤◌}
use native.Mathlib.Omega.{arith}
use lib.Dec.{T, eqb, ltb, leb, eqb→eq, leb→le}
use borrow.Author.Tests.{eqb-false}
use Rattle.def_tree.proofs.Tests.{is_T, and_left, and_right, both}
use Rattle.def_file.specs.declared.Raw.{Raw}
use Rattle.def_file.specs.Kinds.{allows, row_of, form_ok, count_ok}
use Rattle.def_file.specs.Script.{is_lit, has_id}
use Rattle.def_file.specs.Read.{Place, fields_ok, node_ok}

-- the five tests of a node
pub record Tested (t : ℕ) (p : Place) (x : Raw) : Type 0 where
  pub room : T (ltb 0 p.left)
  pub allowed : T (allows p.class x.kind x.arity)
  pub fields : T (fields_ok t x)
  pub form : T (form_ok (row_of x.kind x.form) x.form)
  pub count : T (count_ok (row_of x.kind x.form) x.arity)

pub tested : (t : ℕ) (p : Place) (x : Raw) → T (node_ok t p x) → Tested t p x
unfolding node_ok
tested t p x h =
    let r = row_of x.kind x.form in
    let a = ltb 0 p.left in
    let b = allows p.class x.kind x.arity in
    let c = fields_ok t x in
    let d = form_ok r x.form in
    let e = count_ok r x.arity in
    let h₄ = and_left (a && b && c && d) e h in
    let h₃ = and_left (a && b && c) d h₄ in
    let h₂ = and_left (a && b) c h₃ in
    record { room = and_left a b h₂; allowed = and_right a b h₂; fields = and_right (a && b) c h₃; form = and_right (a && b && c) d h₄; count = and_right (a && b && c && d) e h }

pub all-tests : (t : ℕ) (p : Place) (x : Raw) → Tested t p x → T (node_ok t p x)
unfolding node_ok
all-tests t p x h =
    let r = row_of x.kind x.form in
    let a = ltb 0 p.left in
    let b = allows p.class x.kind x.arity in
    let c = fields_ok t x in
    let d = form_ok r x.form in
    both (a && b && c && d) (count_ok r x.arity) (both (a && b && c) d (both (a && b) c (both a b h.room h.allowed) h.fields) h.form) h.count

-- the kinds of literals
pub lit-kind : (k : ℕ) → T (leb 22 k && leb k 25) → (P : ℕ → Type 0) → P 22 → P 23 → P 24 → P 25 → P k
lit-kind k h P a b c d = go (eqb k 22) refl (eqb k 23) refl (eqb k 24) refl
  where
    l : 22 ≤ k
    l = leb→le 22 k (and_left (leb 22 k) (leb k 25) h)

    m : k ≤ 25
    m = leb→le k 25 (and_right (leb 22 k) (leb k 25) h)

    go : (x : Bool) → eqb k 22 ≡ x → (y : Bool) → eqb k 23 ≡ y → (z : Bool) → eqb k 24 ≡ z → P k
    go true e y f z g = subst P (sym (eqb→eq k 22 (is_T _ e))) a
    go false e true f z g = subst P (sym (eqb→eq k 23 (is_T _ f))) b
    go false e false f true g = subst P (sym (eqb→eq k 24 (is_T _ g))) c
    go false e false f false g = (let q : 25 ≡ k = omega (arith, l, m, eqb-false k 22 e, eqb-false k 23 f, eqb-false k 24 g) in subst P q d)

pub zero_of : (n : ℕ) → T (leb 0 n && leb n 0) → n ≡ 0
zero_of n h = (let l = leb→le n 0 (and_right (leb 0 n) (leb n 0) h) in omega (arith, l))

-- a literal has no children
pub lit-leaf : (k : ℕ) → T (leb 22 k && leb k 25) → (f n : ℕ) → T (count_ok (row_of k f) n) → n ≡ 0
unfolding row_of
lit-leaf k h = lit-kind k h (λ m. (f n : ℕ) → T (count_ok (row_of m f) n) → n ≡ 0) (λ f n. zero_of n) (λ f n. zero_of n) (λ f n. zero_of n) (λ f n. zero_of n)

-- a literal has no identifier
pub lit-no-id : (x : Raw) → T (is_lit x) → has_id x ≡ false
lit-no-id x t = go (eqb x.kind 20) refl (eqb x.kind 21) refl
  where
    not-lit : (k : ℕ) → x.kind ≡ k → (leb 22 k && leb k 25) ≡ false → ⊥
    not-lit k e f = subst T (ap (λ m. leb 22 m && leb m 25) e ∙ f) t

    go : (p : Bool) → eqb x.kind 20 ≡ p → (q : Bool) → eqb x.kind 21 ≡ q → (p || q) ≡ false
    go true e q f = absurd (not-lit 20 (eqb→eq x.kind 20 (is_T _ e)) refl)
    go false e true f = absurd (not-lit 21 (eqb→eq x.kind 21 (is_T _ f)) refl)
    go false e false f = refl

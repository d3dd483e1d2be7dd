-- What `stands` searches: the forms, child counts and places that it tries stand for all. Assumes nothing.
use Rattle.std.proofs.Common.{◌≡◌, ℕ, zero, suc, ◌+◌, ◌<◌, ◌≤◌, eqb, leb, Bool, true, false, ◌&&◌, ◌||◌, not, List, [], ◌∷◌, get_or, refl, sym, subst, arith}
use mathlib.Core.Logic.{◌⊎◌, inl, inr}
use Rattle.std.specs.List.{list_any, list_all, range_with_len}
use Rattle.std.proofs.lemmas.Bool.{and_parts, and_from, or_cases, or_left, or_right, leb-true, le-leb, eqb-true, cases_lt, cases_eq, both_ways, not-true}
use Rattle.std.proofs.lemmas.Bool.Decides.{nat_tests}
use Rattle.def_tree.specs.Base.{pick}
use Rattle.def_file.specs.declared.kinds.Class.{Class}
use Rattle.def_file.specs.declared.kinds.Row.{Row}
use Rattle.def_file.specs.declared.kinds.Class.TheVariants.{Head}
use Rattle.def_file.specs.Kinds.{rows, no_row, is_binding_name, allows, row_of, form_ok, count_ok, child_of}
use Rattle.def_file.proofs.Rows.{none}
use Rattle.def_kinds.specs.Stands.{at_some_place, with_some_count, stands}
use Rattle.file_kinds.specs.Table.{Takes, Somewhere}

-- some number from a on, below a + n
any-from : (p : ℕ → Bool) (a n k : ℕ) → a ≤ k → k < a + n → p k ≡ true → list_any p (range_with_len a n) ≡ true
any-from p a zero k l h e = absurd (omega arith)
any-from p a (suc n) k l h e = elim (cases_eq a k) [
  | inl s ↦ or_left (p a) (list_any p (range_with_len (a + 1) n)) (rw s e)
  | inr o ↦ or_right (p a) (list_any p (range_with_len (a + 1) n)) (any-from p (a + 1) n k (omega arith) (omega arith) e)
]

any-some : (p : ℕ → Bool) (a n : ℕ) → list_any p (range_with_len a n) ≡ true → (k : ℕ) × (a ≤ k) × (k < a + n) × (p k ≡ true)
any-some p a zero e = absurd (cc)
any-some p a (suc n) e = elim (or_cases (p a) (list_any p (range_with_len (a + 1) n)) e) [
  | inl s ↦ (a, omega arith, omega arith, s)
  | inr o ↦ let r = any-some p (a + 1) n o in (r.0, omega (arith, r.1), omega (arith, r.2), r.3)
]

-- a test that passes at each number below n
abbrev all_below : (ℕ → Bool) → ℕ → Bool
all_below p zero = true
all_below p (suc n) = p n && all_below p n

below-at : (p : ℕ → Bool) (n k : ℕ) → all_below p n ≡ true → k < n → p k ≡ true
below-at p zero k e h = absurd (omega arith)
below-at p (suc n) k e h =
    let parts = and_parts (p n) (all_below p n) e in
    elim (cases_eq k n) [
      | inl s ↦ rw s parts.0
      | inr o ↦ below-at p n k parts.1 (omega arith)
    ]

-- a test that passes at each element passes at one
all-at : {A : Type 0} (p : A → Bool) (xs : List A) (k : ℕ) (d : A) → list_all p xs ≡ true → p d ≡ true → p (get_or xs k d) ≡ true
all-at p [] k d e h = h
all-at p (x ∷ xs) zero d e h = (and_parts (p x) (list_all p xs) e).0
all-at p (x ∷ xs) (suc k) d e h = all-at p xs k d (and_parts (p x) (list_all p xs) e).1 h

-- no form is above 24
forms-few : (p f : ℕ) → leb (row_of p f).to 24 ≡ true
unfolding row_of
forms-few p f = all-at (λ (r : ℕ → Row). leb (r f).to 24) rows p (λ f. no_row) refl refl

-- what is no kind has no form
formed-kind : (p f : ℕ) → form_ok (row_of p f) f ≡ true → (1 ≤ p) × (p ≤ 48)
formed-kind p f e = elim (cases_eq p 0) [
  | inl z ↦ absurd (shut (inl z))
  | inr o ↦ elim (cases_lt 48 p) [
    | inl h ↦ absurd (shut (inr h))
    | inr h ↦ (omega arith, h)
  ]
]
  where
    shut : (p ≡ 0) ⊎ (48 < p) → ⊥
    shut h =
        let parts = and_parts (leb no_row.from f) (leb f no_row.to) (subst (λ (r : Row). form_ok r f ≡ true) (sym (none p f h)) e) in
        omega (arith, leb-true 1 f parts.0, leb-true f 0 parts.1)

form-below : (p f : ℕ) → form_ok (row_of p f) f ≡ true → f < 25
form-below p f e =
    let parts = and_parts (leb (row_of p f).from f) (leb f (row_of p f).to) e in
    omega (arith, leb-true f (row_of p f).to parts.1, leb-true (row_of p f).to 24 (forms-few p f))

-- no kind asks for more than 4 children
abbrev least_small : ℕ → ℕ → Bool
least_small p f = not (form_ok (row_of p f) f) || leb (row_of p f).least 4

least-small : all_below (λ p. all_below (least_small p) 25) 49 ≡ true
unfolding row_of
least-small = refl

least-few : (p f : ℕ) → form_ok (row_of p f) f ≡ true → (row_of p f).least ≤ 4
least-few p f e =
    let k = formed-kind p f e in
    let t = below-at (least_small p) 25 f (below-at (λ p. all_below (least_small p) 25) 49 p least-small (omega (arith, k.1))) (form-below p f e) in
    elim (or_cases (not (form_ok (row_of p f) f)) (leb (row_of p f).least 4) t) [
      | inl n ↦ absurd (both_ways (form_ok (row_of p f) f) (not-true (form_ok (row_of p f) f) n) e)
      | inr l ↦ leb-true (row_of p f).least 4 l
    ]

-- only kinds stand anywhere
taken-kind : (k : Class) (c m : ℕ) → allows k c m ≡ true → (1 ≤ c) × (c ≤ 48)
taken-kind _ c m e = grind (arith, nat_tests)

-- and only a declaration is asked how many children it has, and it has one
taken-one : (k : Class) (c m : ℕ) → allows k c m ≡ true → allows k c 1 ≡ true
taken-one Head c m e = elim (or_cases (is_binding_name c) (eqb c 5 && eqb m 1) e) [
  | inl b ↦ or_left (is_binding_name c) (eqb c 5 && eqb 1 1) b
  | inr d ↦ or_right (is_binding_name c) (eqb c 5 && eqb 1 1) (and_from (eqb c 5) (eqb 1 1) (and_parts (eqb c 5) (eqb m 1) d).0 refl)
]
taken-one _ c m e = e

-- of a row that asks for at most 4 children, a place among n is one among at most 4
module _ (r : Row) (c m : ℕ) (few : r.least ≤ 4) where
  at-place : (n i : ℕ) → i < n → allows (child_of r n i) c m ≡ true → at_some_place r c n ≡ true
  at-place n i h e = any-from (λ j. allows (child_of r n j) c 1) 0 n i (omega arith) (omega arith) (taken-one (child_of r n i) c m e)

  at-count : (n i : ℕ) → count_ok r n ≡ true → i < n → n ≤ 4 → allows (child_of r n i) c m ≡ true → with_some_count r c ≡ true
  at-count n i k h l e = any-from (λ j. count_ok r j && at_some_place r c j) 1 4 n (omega arith) (omega arith) (and_from (count_ok r n) (at_some_place r c n) k (at-place n i h e))

  -- where a place of more than 4 stands among 4
  spot : (n i : ℕ) → 4 < n → i < n → (j : ℕ) × (j < 4) × (child_of r 4 j ≡ child_of r n i)
  spot n i g h = go (eqb n 1) refl (eqb i 0) refl (eqb (i + 1) n) refl
    where
      go : (x : Bool) → eqb n 1 ≡ x → (y : Bool) → eqb i 0 ≡ y → (z : Bool) → eqb (i + 1) n ≡ z
          → (j : ℕ) × (j < 4) × (child_of r 4 j ≡ pick x r.only (pick y r.first (pick z r.last r.rest)))
      go true a y b z d = absurd (omega (arith, eqb-true n 1 a))
      go false a true b z d = (0, omega arith, refl)
      go false a false b true d = (3, omega arith, refl)
      go false a false b false d = (1, omega arith, refl)

  some-count : (n i : ℕ) → count_ok r n ≡ true → i < n → allows (child_of r n i) c m ≡ true → with_some_count r c ≡ true
  some-count n i k h e = elim (cases_lt 4 n) [
    | inr l ↦ at-count n i k h l e
    | inl g ↦
        let s = spot n i g h in
        let parts = and_parts (leb r.least n) (leb n r.most) k in
        at-count 4 s.0 (and_from (leb r.least 4) (leb 4 r.most) (le-leb r.least 4 few) (le-leb 4 r.most (omega (arith, leb-true n r.most parts.1)))) s.1 (omega arith) (subst (λ (d : Class). allows d c m ≡ true) (sym s.2) e)
  ]

-- whatever child the list allows somewhere, `stands` finds
pub takes-stands : (p f n i c m : ℕ) → Takes p f n i c m → stands p c ≡ true
unfolding stands
takes-stands p f n i c m t =
    any-from (λ g. form_ok (row_of p g) g && with_some_count (row_of p g) c) 0 25 f (omega arith) (form-below p f t.form)
    (and_from (form_ok (row_of p f) f) (with_some_count (row_of p f) c) t.form (some-count (row_of p f) c m (least-few p f t.form) n i t.count t.place t.child))

pub takes-kinds : (p f n i c m : ℕ) → Takes p f n i c m → (1 ≤ p) × (p ≤ 48) × (1 ≤ c) × (c ≤ 48)
takes-kinds p f n i c m t =
    let a = formed-kind p f t.form in
    let b = taken-kind (child_of (row_of p f) n i) c m t.child in
    (a.0, a.1, b.0, b.1)

-- a node of each kind: its form and its least number of children
own_form : ℕ → ℕ
own_form c = pick (eqb c 16) 1 0

own_arity : ℕ → ℕ
own_arity c = (row_of c (own_form c)).least

abbrev is_node : ℕ → Bool
is_node c = form_ok (row_of c (own_form c)) (own_form c) && count_ok (row_of c (own_form c)) (own_arity c)

all-nodes : all_below (λ c. is_node (suc c)) 48 ≡ true
unfolding row_of own_form own_arity
all-nodes = refl

taken-own : (k : Class) (c : ℕ) → allows k c 1 ≡ true → allows k c (own_arity c) ≡ true
unfolding own_arity own_form row_of
taken-own Head c e = elim (or_cases (is_binding_name c) (eqb c 5 && eqb 1 1) e) [
  | inl b ↦ or_left (is_binding_name c) (eqb c 5 && eqb (own_arity c) 1) b
  | inr d ↦
      let five : c ≡ 5 = eqb-true c 5 (and_parts (eqb c 5) (eqb 1 1) d).0 in
      rw five refl
]
taken-own _ c e = e

-- and what it finds has a place
pub stands-somewhere : (p c : ℕ) → stands p c ≡ true → Somewhere p c
unfolding stands
stands-somewhere p c e =
    let f = any-some (λ g. form_ok (row_of p g) g && with_some_count (row_of p g) c) 0 25 e in
    let a = and_parts (form_ok (row_of p f.0) f.0) (with_some_count (row_of p f.0) c) f.3 in
    let n = any-some (λ j. count_ok (row_of p f.0) j && at_some_place (row_of p f.0) c j) 1 4 a.1 in
    let b = and_parts (count_ok (row_of p f.0) n.0) (at_some_place (row_of p f.0) c n.0) n.3 in
    let i = any-some (λ j. allows (child_of (row_of p f.0) n.0 j) c 1) 0 n.0 b.1 in
    let k = taken-kind (child_of (row_of p f.0) n.0 i.0) c 1 i.3 in
    let o = own c k.0 k.1 in
    record {
      form = f.0;
      arity = n.0;
      index = i.0;
      own_form = own_form c;
      own_arity = own_arity c;
      takes = record { form = a.0; count = b.0; place = omega (arith, i.2); child = taken-own (child_of (row_of p f.0) n.0 i.0) c i.3 };
      formed = o.0;
      counted = o.1;
    }
  where
    own : (c : ℕ) → 1 ≤ c → c ≤ 48 → (form_ok (row_of c (own_form c)) (own_form c) ≡ true) × (count_ok (row_of c (own_form c)) (own_arity c) ≡ true)
    own zero l h = absurd (omega arith)
    own (suc b) l h = and_parts _ _ (below-at (λ c. is_node (suc c)) 48 b all-nodes (omega arith))

-- The test of reading says that the number is the nearest one. Assumes nothing.
use Rattle.std.proofs.Common.{◌≡◌, ℕ, zero, suc, ◌+◌, ◌-◌, ◌*◌, ◌%◌, ◌^◌, ◌<◌, ◌≤◌, ◌≢◌, inl, inr, Bool, true, false, eqb, ltb, leb, refl, ap, subst, ◌∙◌, arith, mul-le-mul_right}
use Rattle.std.proofs.Math.Nat.{one-le-pow}
use Rattle.std.proofs.lemmas.Nat.{pow_pos}
use Rattle.std.proofs.lemmas.Bool.{cases_lt, cases_eq, cases_order, leb-true, le-leb, ltb-true, lt-ltb, and_parts, and_from, ne_eqb, eq-eqb, true≢false}
use Rattle.def_number.specs.Number.{value, exponent, one, reads_as}
use Rattle.laws_number.specs.Meaning.{distance, IsRead}
use Rattle.laws_number.proofs.Steps.{value-next}
use Rattle.laws_number.proofs.Tests.{between}

value_grows : (b : ℕ) → value b < value (b + 1)
value_grows b = let p : 0 < 2 ^ (exponent b - 1) = pow_pos (exponent b - 1) in let n : value (b + 1) ≡ value b + 2 ^ (exponent b - 1) = value-next b in omega arith

value_none : value 0 ≡ 0
unfolding value
value_none = refl

value_up : (b k : ℕ) → value b ≤ value (b + k)
value_up b zero = let e : b + 0 ≡ b = omega arith in rw e (omega arith)
value_up b (suc k) =
    let e : b + suc k ≡ b + k + 1 = omega arith in
    let h : value b ≤ value (b + k) = value_up b k in
    let g : value (b + k) < value (b + k + 1) = value_grows (b + k) in
    rw e (omega arith)

pub value_mono : (b c : ℕ) → b ≤ c → value b ≤ value c
value_mono b c h = let e : b + (c - b) ≡ c = omega arith in subst (λ n. value b ≤ value n) e (value_up b (c - b))

module _ (d j b : ℕ) where
  ten_pos : 0 < 10 ^ j
  ten_pos = one-le-pow j 10 (omega arith)

  -- numbers before and after, in the decimal's units
  before : (c : ℕ) → c < b → value c * 10 ^ j ≤ value (b - 1) * 10 ^ j
  before c h = mul-le-mul_right (10 ^ j) (value_mono c (b - 1) (omega arith))

  before_it : 0 < b → value (b - 1) * 10 ^ j < value b * 10 ^ j
  before_it h =
      let e : b - 1 + 1 ≡ b = omega arith in
      let g : value (b - 1) < value (b - 1 + 1) = value_grows (b - 1) in
      let k : value (b - 1) < value b = subst (λ n. value (b - 1) < value n) e g in
      let m : (value (b - 1) + 1) * 10 ^ j ≤ value b * 10 ^ j = mul-le-mul_right (10 ^ j) (let l : value (b - 1) + 1 ≤ value b = omega arith in l) in
      let p : 0 < 10 ^ j = ten_pos in
      omega arith

  after : (c : ℕ) → b < c → value (b + 1) * 10 ^ j ≤ value c * 10 ^ j
  after c h = mul-le-mul_right (10 ^ j) (value_mono (b + 1) c (omega arith))

  after_it : value b * 10 ^ j < value (b + 1) * 10 ^ j
  after_it =
      let g : value b < value (b + 1) = value_grows b in
      let m : (value b + 1) * 10 ^ j ≤ value (b + 1) * 10 ^ j = mul-le-mul_right (10 ^ j) (let l : value b + 1 ≤ value (b + 1) = omega arith in l) in
      let p : 0 < 10 ^ j = ten_pos in
      omega arith

  -- the ends, met or not
  pub weak : (even : Bool) → between even ((value (b - 1) + value b) * 10 ^ j) (2 * d * one) ((value b + value (b + 1)) * 10 ^ j) ≡ true
      → ((value (b - 1) + value b) * 10 ^ j ≤ 2 * d * one) × (2 * d * one ≤ (value b + value (b + 1)) * 10 ^ j)
  weak true h =
      let p = and_parts (leb ((value (b - 1) + value b) * 10 ^ j) (2 * d * one)) (leb (2 * d * one) ((value b + value (b + 1)) * 10 ^ j)) h in
      (leb-true ((value (b - 1) + value b) * 10 ^ j) (2 * d * one) p.0, leb-true (2 * d * one) ((value b + value (b + 1)) * 10 ^ j) p.1)
  weak false h =
      let p = and_parts (ltb ((value (b - 1) + value b) * 10 ^ j) (2 * d * one)) (ltb (2 * d * one) ((value b + value (b + 1)) * 10 ^ j)) h in
      let q : (value (b - 1) + value b) * 10 ^ j < 2 * d * one = ltb-true ((value (b - 1) + value b) * 10 ^ j) (2 * d * one) p.0 in
      let r : 2 * d * one < (value b + value (b + 1)) * 10 ^ j = ltb-true (2 * d * one) ((value b + value (b + 1)) * 10 ^ j) p.1 in
      (omega arith, omega arith)

  pub strict : (even : Bool) → between even ((value (b - 1) + value b) * 10 ^ j) (2 * d * one) ((value b + value (b + 1)) * 10 ^ j) ≡ true → even ≡ false
      → ((value (b - 1) + value b) * 10 ^ j < 2 * d * one) × (2 * d * one < (value b + value (b + 1)) * 10 ^ j)
  strict true h e = absurd (true≢false e)
  strict false h e =
      let p = and_parts (ltb ((value (b - 1) + value b) * 10 ^ j) (2 * d * one)) (ltb (2 * d * one) ((value b + value (b + 1)) * 10 ^ j)) h in
      (ltb-true ((value (b - 1) + value b) * 10 ^ j) (2 * d * one) p.0, ltb-true (2 * d * one) ((value b + value (b + 1)) * 10 ^ j) p.1)

  closer : ((value (b - 1) + value b) * 10 ^ j ≤ 2 * d * one) × (2 * d * one ≤ (value b + value (b + 1)) * 10 ^ j) → (c : ℕ) → distance d j b ≤ distance d j c
  closer w c = elim (cases_order c b) [
    | inl e ↦ rw e (omega arith)
    | inr o ↦ elim o [
      | inl l ↦ let k : value c * 10 ^ j ≤ value (b - 1) * 10 ^ j = before c l in let w0 = w.0 in let z : value (b - 1) * 10 ^ j < value b * 10 ^ j = before_it (omega arith) in omega arith
      | inr l ↦ let k : value (b + 1) * 10 ^ j ≤ value c * 10 ^ j = after c l in let w1 = w.1 in let z : value b * 10 ^ j < value (b + 1) * 10 ^ j = after_it in omega arith
    ]
  ]

  tied : ((value (b - 1) + value b) * 10 ^ j < 2 * d * one) × (2 * d * one < (value b + value (b + 1)) * 10 ^ j) → (c : ℕ) → c ≢ b → distance d j c ≡ distance d j b → ⊥
  tied w c n t = elim (cases_order c b) [
    | inl e ↦ n e
    | inr o ↦ elim o [
      | inl l ↦ let k : value c * 10 ^ j ≤ value (b - 1) * 10 ^ j = before c l in let w0 = w.0 in let z : value (b - 1) * 10 ^ j < value b * 10 ^ j = before_it (omega arith) in omega arith
      | inr l ↦ let k : value (b + 1) * 10 ^ j ≤ value c * 10 ^ j = after c l in let w1 = w.1 in let z : value b * 10 ^ j < value (b + 1) * 10 ^ j = after_it in omega arith
    ]
  ]

  pub read-is : reads_as d j b ≡ true → IsRead d j b
  unfolding reads_as
  read-is h = record {
    closest = λ c k. closer (weak (eqb (b % 2) 0) h) c;
    ties = λ c k n t. elim (cases_eq (b % 2) 0) [
      | inl e ↦ e
      | inr e ↦ absurd (tied (strict (eqb (b % 2) 0) h (ne_eqb (b % 2) 0 e)) c n t)
    ];
  }

  high_end : b < 2047 * 2 ^ 52 → IsRead d j b → 2 * d * one ≤ (value b + value (b + 1)) * 10 ^ j
  high_end h r =
      let k : distance d j b ≤ distance d j (b + 1) = r.closest (b + 1) (omega arith) in
      let z : value b * 10 ^ j < value (b + 1) * 10 ^ j = after_it in
      omega arith

  low_end : b < 2047 * 2 ^ 52 → IsRead d j b → (value (b - 1) + value b) * 10 ^ j ≤ 2 * d * one
  low_end h r = elim (cases_lt 0 b) [
    | inl p ↦
        let k : distance d j b ≤ distance d j (b - 1) = r.closest (b - 1) (omega arith) in
        let z : value (b - 1) * 10 ^ j < value b * 10 ^ j = before_it p in
        omega arith
    | inr p ↦
        let e : b ≡ 0 = omega arith in
        let n : value b ≡ 0 = ap value e ∙ value_none in
        let m : value (b - 1) ≡ 0 = ap (λ c. value (c - 1)) e ∙ value_none in
        rw (n, m) (omega arith)
  ]

  high_past : b < 2047 * 2 ^ 52 → IsRead d j b → (b % 2 ≡ 0 → ⊥) → 2 * d * one < (value b + value (b + 1)) * 10 ^ j
  high_past h r o = elim (cases_lt (2 * d * one) ((value b + value (b + 1)) * 10 ^ j)) [
    | inl l ↦ l
    | inr l ↦
        let k : 2 * d * one ≤ (value b + value (b + 1)) * 10 ^ j = high_end h r in
        let z : value b * 10 ^ j < value (b + 1) * 10 ^ j = after_it in
        absurd (o (r.ties (b + 1) (omega arith) (λ e. omega arith) (omega arith)))
  ]

  low_past : b < 2047 * 2 ^ 52 → IsRead d j b → (b % 2 ≡ 0 → ⊥) → (value (b - 1) + value b) * 10 ^ j < 2 * d * one
  low_past h r o = elim (cases_lt ((value (b - 1) + value b) * 10 ^ j) (2 * d * one)) [
    | inl l ↦ l
    | inr l ↦
        let k : (value (b - 1) + value b) * 10 ^ j ≤ 2 * d * one = low_end h r in
        let p : 0 < b = omega arith in
        let z : value (b - 1) * 10 ^ j < value b * 10 ^ j = before_it p in
        absurd (o (r.ties (b - 1) (omega arith) (λ e. omega arith) (omega arith)))
  ]

  pub read-so : b < 2047 * 2 ^ 52 → IsRead d j b → reads_as d j b ≡ true
  unfolding reads_as
  read-so h r = elim (cases_eq (b % 2) 0) [
    | inl e ↦
        let f : eqb (b % 2) 0 ≡ true = eq-eqb (b % 2) 0 e in
        rw f (and_from (leb ((value (b - 1) + value b) * 10 ^ j) (2 * d * one)) (leb (2 * d * one) ((value b + value (b + 1)) * 10 ^ j))
        (le-leb ((value (b - 1) + value b) * 10 ^ j) (2 * d * one) (low_end h r)) (le-leb (2 * d * one) ((value b + value (b + 1)) * 10 ^ j) (high_end h r)))
    | inr e ↦
        let f : eqb (b % 2) 0 ≡ false = ne_eqb (b % 2) 0 e in
        rw f (and_from (ltb ((value (b - 1) + value b) * 10 ^ j) (2 * d * one)) (ltb (2 * d * one) ((value b + value (b + 1)) * 10 ^ j))
        (lt-ltb ((value (b - 1) + value b) * 10 ^ j) (2 * d * one) (low_past h r e)) (lt-ltb (2 * d * one) ((value b + value (b + 1)) * 10 ^ j) (high_past h r e)))
  ]

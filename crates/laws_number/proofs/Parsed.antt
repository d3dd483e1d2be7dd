-- A decimal that stands for a number is rounded to that number by the standard library's own reading of texts. Assumes nothing.
use Rattle.std.proofs.Common.{◌≡◌, ℕ, ◌+◌, ◌-◌, ◌*◌, ◌/◌, ◌%◌, ◌^◌, ◌<◌, ◌≤◌, ◌⊎◌, inl, inr, Bool, true, false, eqb, ltb, refl, sym, ap, subst, ◌∙◌, arith, mul-le-mul_right, ◌&&◌, cond}
use Rattle.std.proofs.Math.Nat.{one-le-pow}
use Rattle.std.proofs.lemmas.Nat.{pow_pos, pow-add}
use native.Mathlib.Nat.{mul_assoc, mul_comm, mul-pos, add-mul, mul-div_cancel}
use Rattle.std.proofs.lemmas.Bool.{cases_lt, cases_eq, ne_eqb, eq-eqb}
use Rattle.def_number.specs.Number.{value, exponent, fraction, mantissa, one, reads_as}
use Rattle.laws_number.specs.Choice.{step_of}
use Rattle.laws_number.proofs.Steps.{value-next, value-step, step_one}
use Rattle.laws_number.proofs.Reading.{weak, strict}
use lib.Pow.{pow_mono}
use Rattle.laws_number.proofs.Closest.{left-out, none-left-out, rounded}
use lib.Ieee.{Float, nan, inf, fin, up, down, size, binary64, round, of_bits, to_bits}
use lib.Ieee.Scale.{grid, overflow, round_val}
use lib.Ieee.Exact.{HasValue}
use lib.Ieee.Bits.{of_bits-to_bits}
use lib.Ieee.Fits.{round-fits, down_pos}

-- ---- numbers of 64 bits

mantissa_few : (b : ℕ) → mantissa b < 2 ^ 53
mantissa_few b = elim (cases_eq (exponent b) 0) [
  | inl h ↦ let e : eqb (exponent b) 0 ≡ true = eq-eqb (exponent b) 0 h in rw e (let o : b % 2 ^ 52 < 2 ^ 53 = omega arith in o)
  | inr h ↦ let e : eqb (exponent b) 0 ≡ false = ne_eqb (exponent b) 0 h in rw e (let o : b % 2 ^ 52 + 2 ^ 52 < 2 ^ 53 = omega arith in o)
]

mantissa_whole : (b : ℕ) → 0 < exponent b → mantissa b ≡ fraction b + 2 ^ 52
mantissa_whole b h = rw (ne_eqb (exponent b) 0 (λ e. omega arith)) refl

mantissa_even : (b : ℕ) → b % 2 ≡ 0 → mantissa b % 2 ≡ 0
mantissa_even b h = elim (cases_eq (exponent b) 0) [
  | inl k ↦ let e : eqb (exponent b) 0 ≡ true = eq-eqb (exponent b) 0 k in rw e (let o : b % 2 ^ 52 % 2 ≡ 0 = omega arith in o)
  | inr k ↦ let e : eqb (exponent b) 0 ≡ false = ne_eqb (exponent b) 0 k in rw e (let o : (b % 2 ^ 52 + 2 ^ 52) % 2 ≡ 0 = omega arith in o)
]

step_most : (b : ℕ) → step_of b ≤ 2
step_most b = elim (eqb (fraction b) 0 && ltb 1 (exponent b)) as (λ t. cond {A = ℕ} t 1 2 ≤ 2) [ true ↦ omega arith | false ↦ omega arith ]

module _ (d j b : ℕ) (bits : b < 2047 * 2 ^ 52) (reads : reads_as d j b ≡ true) where
  c : ℕ
  c = 10 ^ j

  limits : ((value (b - 1) + value b) * 10 ^ j ≤ 2 * d * one) × (2 * d * one ≤ (value b + value (b + 1)) * 10 ^ j)
  unfolding reads_as
  limits = weak d j b (eqb (b % 2) 0) reads

  met_even : ((value (b - 1) + value b) * 10 ^ j ≡ 2 * d * one) ⊎ (2 * d * one ≡ (value b + value (b + 1)) * 10 ^ j) → b % 2 ≡ 0
  unfolding reads_as
  met_even o = elim (cases_eq (b % 2) 0) [
    | inl h ↦ h
    | inr h ↦ let s = strict d j b (eqb (b % 2) 0) reads (ne_eqb (b % 2) 0 h) in let s0 = s.0 in let s1 = s.1 in elim o [ inl p ↦ absurd (omega arith) | inr p ↦ absurd (omega arith) ]
  ]

  e : ℕ
  e = exponent b - 1

  n : ℕ
  n = d * one

  unit : ℕ
  unit = c * 2 ^ e

  ten_pos : 0 < c
  unfolding c
  ten_pos = one-le-pow j 10 (omega arith)

  unit_pos : 0 < unit
  unfolding unit
  unit_pos = mul-pos ten_pos (pow_pos e)

  scaled : mantissa b * unit ≡ value b * c
  unfolding unit value e
  scaled = sym (mul_assoc (mantissa b) c (2 ^ (exponent b - 1))) ∙ ap (λ x. x * 2 ^ (exponent b - 1)) (mul_comm (mantissa b) c) ∙ mul_assoc c (mantissa b) (2 ^ (exponent b - 1)) ∙ mul_comm c (mantissa b * 2 ^ (exponent b - 1))

  next : value (b + 1) * c ≡ value b * c + unit
  unfolding unit e
  next = ap (λ x. x * c) (value-next b) ∙ add-mul (value b) (2 ^ (exponent b - 1)) c ∙ ap (λ x. value b * c + x) (mul_comm (2 ^ (exponent b - 1)) c)

  before : 0 < b → 2 * (value b * c) ≡ 2 * (value (b - 1) * c) + step_of b * unit
  unfolding unit e
  before h =
      let f : 2 * value b * c ≡ (2 * value (b - 1) + step_of b * 2 ^ (exponent b - 1)) * c = ap (λ x. x * c) (value-step b h) in
      let g : (2 * value (b - 1) + step_of b * 2 ^ (exponent b - 1)) * c ≡ 2 * value (b - 1) * c + step_of b * (c * 2 ^ (exponent b - 1)) = add-mul (2 * value (b - 1)) (step_of b * 2 ^ (exponent b - 1)) c ∙ ap (λ x. 2 * value (b - 1) * c + x) (mul_assoc (step_of b) (2 ^ (exponent b - 1)) c ∙ ap (λ x. step_of b * x) (mul_comm (2 ^ (exponent b - 1)) c)) in
      let k : 2 * value b * c ≡ 2 * value (b - 1) * c + step_of b * (c * 2 ^ (exponent b - 1)) = f ∙ g in
      omega arith

  least : (value (b - 1) + value b) * c ≤ 2 * n
  unfolding c n
  least = let l = limits.0 in omega arith

  most : 2 * n ≤ (value b + value (b + 1)) * c
  unfolding c n
  most = let l = limits.1 in omega arith

  met : ((value (b - 1) + value b) * c ≡ 2 * n) ⊎ (2 * n ≡ (value b + value (b + 1)) * c) → mantissa b % 2 ≡ 0
  unfolding c n
  met o = mantissa_even b (met_even (elim o [ inl p ↦ inl (omega arith) | inr p ↦ inr (omega arith) ]))

  nothing : b ≡ 0 → mantissa b * unit ≡ 0
  nothing h = ap (λ x. mantissa x * unit) h ∙ (let o : 0 * unit ≡ 0 = omega arith in o)

  low-end : 4 * (mantissa b * unit) ≤ 4 * n + step_of b * unit
  low-end = elim (cases_lt 0 b) [
    | inl h ↦ let f : 2 * (value b * c) ≡ 2 * (value (b - 1) * c) + step_of b * unit = before h in let g : (value (b - 1) + value b) * c ≤ 2 * n = least in let s : mantissa b * unit ≡ value b * c = scaled in omega arith
    | inr h ↦ let z : mantissa b * unit ≡ 0 = nothing (omega arith) in omega arith
  ]

  high-end : 2 * n ≤ 2 * (mantissa b * unit) + unit
  high-end = let f : value (b + 1) * c ≡ value b * c + unit = next in let g : 2 * n ≤ (value b + value (b + 1)) * c = most in let s : mantissa b * unit ≡ value b * c = scaled in omega arith

  steps : step_of b * unit ≤ 2 * unit
  steps = mul-le-mul_right unit (step_most b)

  ends : (4 * (mantissa b * unit) ≡ 4 * n + 2 * unit) ⊎ (2 * n ≡ 2 * (mantissa b * unit) + unit) → mantissa b % 2 ≡ 0
  ends o = elim o [
    | inl p ↦
        elim (cases_lt 0 b) [
          | inl h ↦
              let f : 2 * (value b * c) ≡ 2 * (value (b - 1) * c) + step_of b * unit = before h in
              let g : (value (b - 1) + value b) * c ≤ 2 * n = least in
              let s : mantissa b * unit ≡ value b * c = scaled in
              let t : step_of b * unit ≤ 2 * unit = steps in
              met (inl (omega arith))
          | inr h ↦ let z : mantissa b * unit ≡ 0 = nothing (omega arith) in let u : 0 < unit = unit_pos in absurd (omega arith)
        ]
    | inr p ↦ let f : value (b + 1) * c ≡ value b * c + unit = next in let s : mantissa b * unit ≡ value b * c = scaled in met (inr (omega arith))
  ]

  is-grid : grid binary64 d (10 ^ j) ≡ value b
  unfolding unit c n e one value
  is-grid =
      rounded n c e (mantissa b) (step_of b) ten_pos (mantissa_few b) (step_most b)
      (λ h. let p : 0 < exponent b = omega arith in rw (mantissa_whole b p) (omega arith))
      (λ h k. let p : 0 < exponent b = omega arith in let m : mantissa b ≡ fraction b + 2 ^ 52 = mantissa_whole b p in step_one b (omega arith) (omega arith))
      low-end high-end ends

-- ---- the bits of the number

one_digit_more : (m e : ℕ) → m < 2 ^ 53 → m * 2 ^ e < 2 ^ 53 * 2 ^ e
one_digit_more m e h = let p : 0 < 2 ^ e = pow_pos e in let g : (m + 1) * 2 ^ e ≤ 2 ^ 53 * 2 ^ e = mul-le-mul_right (2 ^ e) (let k : m + 1 ≤ 2 ^ 53 = omega arith in k) in omega arith

dropped : (b : ℕ) → size (value b) - 53 ≡ exponent b - 1
unfolding value
dropped b = elim (cases_lt 0 (exponent b)) [
  | inl h ↦
      let w : mantissa b ≡ fraction b + 2 ^ 52 = mantissa_whole b h in
      left-out (mantissa b * 2 ^ (exponent b - 1)) (exponent b - 1) (mul-le-mul_right (2 ^ (exponent b - 1)) (let k : 2 ^ 52 ≤ mantissa b = omega arith in k)) (one_digit_more (mantissa b) (exponent b - 1) (mantissa_few b))
  | inr h ↦
      let z : exponent b - 1 ≡ 0 = omega arith in
      let g : mantissa b * 2 ^ 0 < 2 ^ 53 = (let m : mantissa b < 2 ^ 53 = mantissa_few b in omega arith) in
      rw z (none-left-out (mantissa b * 2 ^ 0) g)
]

fields : (b : ℕ) → b < 2047 * 2 ^ 52 → (exponent b - 1) * 2 ^ 52 + mantissa b ≡ b
fields b h = elim (cases_lt 0 (exponent b)) [
  | inl p ↦ let w : mantissa b ≡ fraction b + 2 ^ 52 = mantissa_whole b p in omega arith
  | inr p ↦ let z : exponent b ≡ 0 = omega arith in let k : eqb (exponent b) 0 ≡ true = eq-eqb (exponent b) 0 z in rw k (omega arith)
]

below-power : (m e k : ℕ) → m < 2 ^ 53 → 53 + e ≤ k → m * 2 ^ e < 2 ^ k
below-power m e k h l =
    let a : m * 2 ^ e < 2 ^ 53 * 2 ^ e = one_digit_more m e h in
    let b : 2 ^ (53 + e) ≡ 2 ^ 53 * 2 ^ e = pow-add 2 53 e in
    let g : 2 ^ (53 + e) ≤ 2 ^ k = pow_mono l in
    omega arith

in-range : (b : ℕ) → b < 2047 * 2 ^ 52 → value b < overflow binary64
unfolding value
in-range b h = below-power (mantissa b) (exponent b - 1) 2098 (mantissa_few b) (omega arith)

-- the bits that are written for a number of x least steps
bits-of : (t x k m b : ℕ) (s : Bool) → s ≡ false → size x - 53 ≡ k → x / 2 ^ k ≡ m → k * 2 ^ 52 + m ≡ b → cond s t 0 + (size x - 53) * 2 ^ 52 + x / 2 ^ (size x - 53) ≡ b
bits-of t x k m b s f d q e = rw (f, d, q) (omega arith)

to-bits : (b : ℕ) (x : Float) → b < 2047 * 2 ^ 52 → HasValue x false (value b) (2 ^ 1074) → to_bits binary64 x ≡ b
unfolding to_bits value
to-bits b nan h v = absurd v
to-bits b (inf s) h v = absurd v
to-bits b (fin s m e) h v =
    let x : m * up e * 2 ^ 1074 / down e ≡ value b = ap (λ y. y / down e) v.1 ∙ mul-div_cancel (value b) (down_pos e) in
    bits-of (2 ^ 63) (m * up e * 2 ^ 1074 / down e) (exponent b - 1) (mantissa b) b s v.0 (ap (λ y. size y - 53) x ∙ dropped b) (ap (λ y. y / 2 ^ (exponent b - 1)) x ∙ mul-div_cancel (mantissa b) (pow_pos (exponent b - 1))) (fields b h)

pub parsed : (d j b : ℕ) → b < 2047 * 2 ^ 52 → reads_as d j b ≡ true → round binary64 false d (10 ^ j) ≡ of_bits binary64 b
parsed d j b h r =
    let g : grid binary64 d (10 ^ j) ≡ value b = is-grid d j b h r in
    let v = round_val binary64 d (10 ^ j) (subst (λ x. x < overflow binary64) (sym g) (in-range b h)) in
    let w : HasValue (round binary64 false d (10 ^ j)) false (value b) (2 ^ 1074) = subst (λ x. HasValue (round binary64 false d (10 ^ j)) false x (2 ^ 1074)) g v in
    sym (of_bits-to_bits binary64 (round binary64 false d (10 ^ j)) (round-fits binary64 false d (10 ^ j))) ∙ ap (of_bits binary64) (to-bits b (round binary64 false d (10 ^ j)) h w)

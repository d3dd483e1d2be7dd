-- A fraction rounded to the nearest whole number, and one that lies between the middles around a number of 53 binary digits. Assumes nothing.
use Rattle.std.proofs.Common.{◌≡◌, ℕ, suc, ◌+◌, ◌-◌, ◌*◌, ◌/◌, ◌%◌, ◌^◌, ◌<◌, ◌≤◌, ◌⊎◌, inl, inr, not, eqb, refl, sym, ap, subst, ◌∙◌, arith, mul-le-mul_right, mod-lt, pow-suc}
use Prim.Native.Nat.{compare, Ordering}
use Rattle.std.proofs.Math.Nat.{div-add-mod'}
use Rattle.std.proofs.lemmas.Nat.{pow_pos, pow-add, div_below, le-div}
use native.Mathlib.Nat.{mul_assoc, mul_comm, mul_left_comm, mul-pos}
use Rattle.std.proofs.lemmas.Bool.{cases_lt}
use lib.Dec.{T, is_le, compare_is_eq, leb→le, nleb→lt, eqb→eq, eqb_refl}
use lib.Pow.{pow_mono}
use lib.Ieee.{nearest, size}
use lib.Ieee.Digits.{size-lt, size-le}
use lib.Ieee.Nearest.{closest}

-- ---- a fraction that is within a half of m, and is not a half away where m is odd, is rounded to m

abbrev Compared : Ordering → ℕ → ℕ → Type 0
Compared Ordering.lt a b = a < b
Compared Ordering.eq a b = a ≡ b
Compared Ordering.gt a b = b < a

compared : (a b : ℕ) → Compared (compare a b) a b
compared a b = go (compare a b) (leb→le a b) (nleb→lt a b) (eqb→eq a b) (λ (e : a ≡ b). subst (λ (x : ℕ). T (eqb a x)) e (eqb_refl a))
  where
    go : (o : Ordering) → (T (is_le o) → a ≤ b) → (T (not (is_le o)) → b < a) → (T (compare_is_eq o) → a ≡ b) → (a ≡ b → T (compare_is_eq o)) → Compared o a b
    go Ordering.lt h k e n = elim (cases_lt a b) [ inl l ↦ l | inr l ↦ let g : a ≤ b = h tt in let e : a ≡ b = omega arith in absurd (n e) ]
    go Ordering.eq h k e n = e tt
    go Ordering.gt h k e n = k tt

module _ (n u m : ℕ) (pos : 0 < u) (low : 2 * (m * u) ≤ 2 * n + u) (high : 2 * n ≤ 2 * (m * u) + u) (even : (2 * (m * u) ≡ 2 * n + u) ⊎ (2 * n ≡ 2 * (m * u) + u) → m % 2 ≡ 0) where
  q : ℕ
  q = n / u

  r : ℕ
  r = n % u

  whole : q * u + r ≡ n
  unfolding q r
  whole = div-add-mod' n u

  past : r < u
  unfolding r
  past = mod-lt n pos

  less : m < q → m * u + u ≤ q * u
  less l = let p : (m + 1) * u ≤ q * u = mul-le-mul_right u (let k : m + 1 ≤ q = omega arith in k) in omega arith

  more : q < m → q * u + u ≤ m * u
  more l = let p : (q + 1) * u ≤ m * u = mul-le-mul_right u (let k : q + 1 ≤ m = omega arith in k) in omega arith

  far : q + 1 < m → q * u + 2 * u ≤ m * u
  far l = let p : (q + 2) * u ≤ m * u = mul-le-mul_right u (let k : q + 2 ≤ m = omega arith in k) in omega arith

  next_is : q + 1 ≡ m → q * u + u ≡ m * u
  next_is e = let f : (q + 1) * u ≡ m * u = ap (λ x. x * u) e in omega arith

  same_is : q ≡ m → q * u ≡ m * u
  same_is e = ap (λ x. x * u) e

  tie-even : (x : ℕ) → x % 2 ≡ 0 → x + x % 2 ≡ x
  tie-even x e = omega arith

  tie-odd : (x : ℕ) → (x + 1) % 2 ≡ 0 → x + x % 2 ≡ x + 1
  tie-odd x e = omega arith

  go : (o : Ordering) → Compared o (r * 2) u → nearest q o ≡ m
  go Ordering.lt c = elim (cases_lt q m) [
    | inl l ↦ let a : q * u + u ≤ m * u = more l in let w : q * u + r ≡ n = whole in absurd (omega arith)
    | inr k ↦
        elim (cases_lt m q) [
          | inl l ↦ let a : m * u + u ≤ q * u = less l in let w : q * u + r ≡ n = whole in absurd (omega arith)
          | inr j ↦ omega arith
        ]
  ]
  go Ordering.gt c = elim (cases_lt q m) [
    | inr k ↦ let a : m * u ≤ q * u = mul-le-mul_right u k in let w : q * u + r ≡ n = whole in absurd (omega arith)
    | inl l ↦
        elim (cases_lt (q + 1) m) [
          | inl f ↦ let a : q * u + 2 * u ≤ m * u = far f in let w : q * u + r ≡ n = whole in let p : r < u = past in absurd (omega arith)
          | inr j ↦ omega arith
        ]
  ]
  go Ordering.eq c = elim (cases_lt q m) [
    | inr k ↦
        elim (cases_lt m q) [
          | inl l ↦ let a : m * u + u ≤ q * u = less l in let w : q * u + r ≡ n = whole in absurd (omega arith)
          | inr j ↦
              let e : q ≡ m = omega arith in
              let f : q * u ≡ m * u = same_is e in
              let w : q * u + r ≡ n = whole in
              let g : m % 2 ≡ 0 = even (inr (omega arith)) in
              let t : m + m % 2 ≡ m = tie-even m g in
              rw e t
        ]
    | inl l ↦
        elim (cases_lt (q + 1) m) [
          | inl f ↦ let a : q * u + 2 * u ≤ m * u = far f in let w : q * u + r ≡ n = whole in absurd (omega arith)
          | inr j ↦
              let e : q + 1 ≡ m = omega arith in
              let f : q * u + u ≡ m * u = next_is e in
              let w : q * u + r ≡ n = whole in
              let g : m % 2 ≡ 0 = even (inl (omega arith)) in
              let h : (q + 1) % 2 ≡ 0 = ap (λ x. x % 2) e ∙ g in
              tie-odd q h ∙ e
        ]
  ]

pub closest-is : (n u m : ℕ) → 0 < u → 2 * (m * u) ≤ 2 * n + u → 2 * n ≤ 2 * (m * u) + u → ((2 * (m * u) ≡ 2 * n + u) ⊎ (2 * n ≡ 2 * (m * u) + u) → m % 2 ≡ 0) → closest n u ≡ m
unfolding q r
closest-is n u m pos low high even = go n u m pos low high even (compare (n % u * 2) u) (compared (n % u * 2) u)

-- ---- how many of a number's binary digits are left out

pub left-out : (w k : ℕ) → 2 ^ 52 * 2 ^ k ≤ w → w < 2 ^ 53 * 2 ^ k → size w - 53 ≡ k
left-out w k low high =
    let a : 2 ^ (53 + k) ≡ 2 ^ 53 * 2 ^ k = pow-add 2 53 k in
    let b : 2 ^ (52 + k) ≡ 2 ^ 52 * 2 ^ k = pow-add 2 52 k in
    let most : size w ≤ 53 + k = size-le w (53 + k) (omega arith) in
    elim (cases_lt (52 + k) (size w)) [
      | inl l ↦ omega arith
      | inr l ↦
          let g : w < 2 ^ size w = size-lt w in
          let h : 2 ^ size w ≤ 2 ^ (52 + k) = pow_mono l in
          absurd (omega arith)
    ]

pub none-left-out : (w : ℕ) → w < 2 ^ 53 → size w - 53 ≡ 0
none-left-out w h = let l : size w ≤ 53 = size-le w 53 h in omega arith

-- ---- the fraction n / c, between the middles around m * 2 ^ e, where the number before is `step` halves of 2 ^ e below
module _ (n c e m step : ℕ) (pos : 0 < c) (few : m < 2 ^ 53) (two : step ≤ 2) (normal : 0 < e → 2 ^ 52 ≤ m) (nearer : 0 < e → m ≡ 2 ^ 52 → step ≡ 1)
    (low : 4 * (m * (c * 2 ^ e)) ≤ 4 * n + step * (c * 2 ^ e)) (high : 2 * n ≤ 2 * (m * (c * 2 ^ e)) + c * 2 ^ e)
    (even : (4 * (m * (c * 2 ^ e)) ≡ 4 * n + 2 * (c * 2 ^ e)) ⊎ (2 * n ≡ 2 * (m * (c * 2 ^ e)) + c * 2 ^ e) → m % 2 ≡ 0) where
  unit_pos : 0 < c * 2 ^ e
  unit_pos = mul-pos pos (pow_pos e)

  steps : step * (c * 2 ^ e) ≤ 2 * (c * 2 ^ e)
  steps = mul-le-mul_right (c * 2 ^ e) two

  kept-is : closest n (c * 2 ^ e) ≡ m
  kept-is = let s : step * (c * 2 ^ e) ≤ 2 * (c * 2 ^ e) = steps in closest-is n (c * 2 ^ e) m unit_pos (omega arith) high (λ o. elim o [ inl p ↦ even (inl (omega arith)) | inr p ↦ even (inr p) ])

  below_top : n / c < 2 ^ 53 * 2 ^ e
  below_top =
      let a : m * (c * 2 ^ e) + c * 2 ^ e ≤ 2 ^ 53 * (c * 2 ^ e) = (let g : (m + 1) * (c * 2 ^ e) ≤ 2 ^ 53 * (c * 2 ^ e) = mul-le-mul_right (c * 2 ^ e) (let k : m + 1 ≤ 2 ^ 53 = omega arith in k) in omega arith) in
      let p : 0 < c * 2 ^ e = unit_pos in
      let b : 2 ^ 53 * (c * 2 ^ e) ≡ 2 ^ 53 * 2 ^ e * c = simp (mul_assoc, mul_comm, mul_left_comm) in
      div_below n c (2 ^ 53 * 2 ^ e) pos (let l : n < 2 ^ 53 * 2 ^ e * c = omega arith in l)

  abbrev result : ℕ
  result = closest n (c * 2 ^ (size (n / c) - 53)) * 2 ^ (size (n / c) - 53)

  at_drop : ℕ → ℕ
  at_drop k = closest n (c * 2 ^ k) * 2 ^ k

  same : size (n / c) - 53 ≡ e → result ≡ m * 2 ^ e
  unfolding at_drop
  same h = ap at_drop h ∙ ap (λ q. q * 2 ^ e) kept-is

  under : n / c < 2 ^ 52 * 2 ^ e → n < 2 ^ 52 * (c * 2 ^ e)
  under l =
      let b : 2 ^ 52 * (c * 2 ^ e) ≡ 2 ^ 52 * 2 ^ e * c = simp (mul_assoc, mul_comm, mul_left_comm) in
      elim (cases_lt n (2 ^ 52 * (c * 2 ^ e))) [
        | inl k ↦ k
        | inr k ↦ let g : 2 ^ 52 * 2 ^ e ≤ n / c = le-div (2 ^ 52 * 2 ^ e) n c pos (let o : 2 ^ 52 * 2 ^ e * c ≤ n = omega arith in o) in absurd (omega arith)
      ]

  power : 0 < e → n / c < 2 ^ 52 * 2 ^ e → m ≡ 2 ^ 52
  power h l =
      let a : 2 ^ 52 ≤ m = normal h in
      let b : n < 2 ^ 52 * (c * 2 ^ e) = under l in
      let s : step * (c * 2 ^ e) ≤ 2 * (c * 2 ^ e) = steps in
      elim (cases_lt (2 ^ 52) m) [
        | inl k ↦ let g : (2 ^ 52 + 1) * (c * 2 ^ e) ≤ m * (c * 2 ^ e) = mul-le-mul_right (c * 2 ^ e) (let o : 2 ^ 52 + 1 ≤ m = omega arith in o) in absurd (omega arith)
        | inr k ↦ omega arith
      ]

  -- just below a power of 2 a digit more is kept
  half : (k : ℕ) → e ≡ suc k → n / c < 2 ^ 52 * 2 ^ e → result ≡ m * 2 ^ e
  unfolding at_drop
  half k h l =
      let p : 0 < e = omega arith in
      let q : m ≡ 2 ^ 52 = power p l in
      let one_half : step ≡ 1 = nearer p q in
      let b : n < 2 ^ 52 * (c * 2 ^ e) = under l in
      let twice : 2 ^ e ≡ 2 ^ k * 2 = ap (λ x. 2 ^ x) h ∙ pow-suc 2 k in
      let unit : c * 2 ^ e ≡ 2 * (c * 2 ^ k) = ap (λ x. c * x) twice ∙ simp (mul_assoc, mul_comm, mul_left_comm) in
      let s : step * (c * 2 ^ e) ≡ 2 * (c * 2 ^ k) = ap (λ x. x * (c * 2 ^ e)) one_half ∙ (let o : 1 * (c * 2 ^ e) ≡ 2 * (c * 2 ^ k) = omega arith in o) in
      let t : m * (c * 2 ^ e) ≡ 2 ^ 52 * (c * 2 ^ e) = ap (λ x. x * (c * 2 ^ e)) q in
      let v : 0 < c * 2 ^ k = mul-pos pos (pow_pos k) in
      let z : 2 ^ 52 * (c * 2 ^ k) ≡ 2 ^ 52 * 2 ^ k * c = simp (mul_assoc, mul_comm, mul_left_comm) in
      let is : closest n (c * 2 ^ k) ≡ 2 ^ 53 = closest-is n (c * 2 ^ k) (2 ^ 53) v (omega arith) (omega arith) (λ o. refl) in
      let d : size (n / c) - 53 ≡ k = left-out (n / c) k (le-div (2 ^ 52 * 2 ^ k) n c pos (let o : 2 ^ 52 * 2 ^ k * c ≤ n = omega arith in o)) (let o : n / c < 2 ^ 53 * 2 ^ k = omega arith in o) in
      ap at_drop d ∙ ap (λ x. x * 2 ^ k) is ∙ (let o : 2 ^ 53 * 2 ^ k ≡ 2 ^ 52 * 2 ^ e = omega arith in o) ∙ sym (ap (λ x. x * 2 ^ e) q)

  pub rounded : result ≡ m * 2 ^ e
  rounded = elim (cases_lt (n / c) (2 ^ 52 * 2 ^ e)) [
    | inr l ↦ same (left-out (n / c) e l below_top)
    | inl l ↦
        elim (cases_lt 0 e) [
          | inl h ↦ half (e - 1) (omega arith) l
          | inr h ↦
              let z : e ≡ 0 = omega arith in
              let o : n / c < 2 ^ 52 * 2 ^ 0 = subst (λ x. n / c < 2 ^ 52 * 2 ^ x) z l in
              same (none-left-out (n / c) (omega arith) ∙ sym z)
        ]
  ]

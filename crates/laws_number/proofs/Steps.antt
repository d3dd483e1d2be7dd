-- How far a number is from the next one and from the one before. Assumes nothing.
use Rattle.std.proofs.Common.{◌≡◌, ℕ, zero, suc, ◌+◌, ◌-◌, ◌*◌, ◌/◌, ◌%◌, ◌^◌, ◌<◌, ◌≤◌, ◌⊎◌, inl, inr, Bool, true, false, cond, ◌&&◌, eqb, refl, sym, ap, ◌∙◌, arith, pow-suc}
use Rattle.std.proofs.lemmas.Bool.{cases_lt, ne_eqb, eq-eqb, lt-ltb, le-ltb}
use Rattle.def_number.specs.Number.{value, exponent, fraction}
use Rattle.laws_number.specs.Choice.{step_of}

-- the number with exponent e and fraction f
abbrev of_fields : ℕ → ℕ → ℕ
of_fields e f = cond (eqb e 0) f (f + 2 ^ 52) * 2 ^ (e - 1)

same_exponent : (e f : ℕ) → of_fields e (f + 1) ≡ of_fields e f + 2 ^ (e - 1)
same_exponent zero f = omega arith
same_exponent (suc e) f =
    let n : eqb (suc e) 0 ≡ false = ne_eqb (suc e) 0 (λ h. omega arith) in
    rw n (omega arith)

next_exponent : (e f : ℕ) → f + 1 ≡ 2 ^ 52 → of_fields (e + 1) 0 ≡ of_fields e f + 2 ^ (e - 1)
next_exponent zero f h = omega arith
next_exponent (suc e) f h =
    let n : eqb (suc e) 0 ≡ false = ne_eqb (suc e) 0 (λ k. omega arith) in
    let m : eqb (suc e + 1) 0 ≡ false = ne_eqb (suc e + 1) 0 (λ k. omega arith) in
    let t : suc e + 1 - 1 ≡ suc e = omega arith in
    let u : suc e - 1 ≡ e = omega arith in
    let v : 2 ^ suc e ≡ 2 ^ e * 2 = pow-suc 2 e in
    let w : (f + 1) * 2 ^ e ≡ 2 ^ 52 * 2 ^ e = ap (λ k. k * 2 ^ e) h in
    let x : (0 + 2 ^ 52) * (2 ^ e * 2) ≡ (f + 2 ^ 52) * 2 ^ e + 2 ^ e = omega arith in
    rw (n, m, t, u, v) x

pub value-next : (b : ℕ) → value (b + 1) ≡ value b + 2 ^ (exponent b - 1)
unfolding value
value-next b = elim (cases_lt (b % 2 ^ 52 + 1) (2 ^ 52)) [
  | inl h ↦
      let e : (b + 1) / 2 ^ 52 ≡ b / 2 ^ 52 = omega arith in
      let f : (b + 1) % 2 ^ 52 ≡ b % 2 ^ 52 + 1 = omega arith in
      rw (e, f) (same_exponent (b / 2 ^ 52) (b % 2 ^ 52))
  | inr h ↦
      let e : (b + 1) / 2 ^ 52 ≡ b / 2 ^ 52 + 1 = omega arith in
      let f : (b + 1) % 2 ^ 52 ≡ 0 = omega arith in
      let g : b % 2 ^ 52 + 1 ≡ 2 ^ 52 = omega arith in
      rw (e, f) (next_exponent (b / 2 ^ 52) (b % 2 ^ 52) g)
]

pub value-before : (b : ℕ) → 0 < b → value b ≡ value (b - 1) + 2 ^ (exponent (b - 1) - 1)
value-before b h =
    let e : b - 1 + 1 ≡ b = omega arith in
    ap value (sym e) ∙ value-next (b - 1)

step_two : (b : ℕ) → (0 < fraction b) ⊎ (exponent b ≤ 1) → step_of b ≡ 2
step_two b (inl h) = rw (ne_eqb (fraction b) 0 (λ e. omega arith)) refl
step_two b (inr h) = rw (le-ltb 1 (exponent b) h) (either (eqb (fraction b) 0))
  where
    either : (x : Bool) → cond {A = ℕ} (x && false) 1 2 ≡ 2
    either true = refl
    either false = refl

pub step_one : (b : ℕ) → fraction b ≡ 0 → 1 < exponent b → step_of b ≡ 1
step_one b h k = rw (eq-eqb (fraction b) 0 h, lt-ltb 1 (exponent b) k) refl

-- twice the way to the number before
pub value-step : (b : ℕ) → 0 < b → 2 * value b ≡ 2 * value (b - 1) + step_of b * 2 ^ (exponent b - 1)
value-step b h =
    let v : value b ≡ value (b - 1) + 2 ^ (exponent (b - 1) - 1) = value-before b h in
    elim (cases_lt 0 (b % 2 ^ 52)) [
      | inl k ↦
          let e : (b - 1) / 2 ^ 52 ≡ b / 2 ^ 52 = omega arith in
          let w : value b ≡ value (b - 1) + 2 ^ (b / 2 ^ 52 - 1) = rw e at v in
          rw (step_two b (inl k)) (omega arith)
      | inr k ↦ elim (cases_lt 1 (b / 2 ^ 52)) [
        | inl m ↦
            let e : (b - 1) / 2 ^ 52 - 1 ≡ b / 2 ^ 52 - 2 = omega arith in
            let w : value b ≡ value (b - 1) + 2 ^ (b / 2 ^ 52 - 2) = rw e at v in
            let s : b / 2 ^ 52 - 1 ≡ suc (b / 2 ^ 52 - 2) = omega arith in
            let p : 2 ^ (b / 2 ^ 52 - 1) ≡ 2 ^ (b / 2 ^ 52 - 2) * 2 = ap (λ n. 2 ^ n) s ∙ pow-suc 2 (b / 2 ^ 52 - 2) in
            let z : b % 2 ^ 52 ≡ 0 = omega arith in
            rw (step_one b z m) (omega arith)
        | inr m ↦
            let e : (b - 1) / 2 ^ 52 - 1 ≡ b / 2 ^ 52 - 1 = omega arith in
            let w : value b ≡ value (b - 1) + 2 ^ (b / 2 ^ 52 - 1) = rw e at v in
            rw (step_two b (inr m)) (omega arith)
      ]
    ]

-- The text of a number is read back as that number by the standard library's `parse_float`. Assumes nothing.
use Rattle.std.proofs.Common.{◌≡◌, ℕ, zero, suc, ◌+◌, ◌*◌, ◌/◌, ◌%◌, ◌^◌, ◌<◌, ◌≤◌, inl, inr, true, false, not, eqb, ltb, [], ◌∷◌, ◌++◌, List, length, Option, Some, None, refl, sym, ap, ◌∙◌, arith, pow-suc, append-nil, mod-lt, append_assoc, mul_assoc}
use Rattle.std.proofs.Math.Nat.{div-add-mod', one-le-pow, mod-eq_of_lt}
use Rattle.std.proofs.lemmas.Nat.{mod-mul-add}
use Rattle.std.proofs.lemmas.Bool.{cases_lt, cases_eq, ne_eqb, eq-eqb, lt-ltb, le-ltb, true≢false}
use Rattle.std.proofs.lemmas.Int.Digits.{digits_value_push}
use Rattle.std.proofs.lemmas.Float.Parse.{parse_float-text_of}
use Rattle.std.specs.Str.Parse.{digits_value, AllDigits}
use Rattle.std.specs.Float.Parse.{parse_float}
use Rattle.std.specs.Float.Numeral.{Parts, IsWellFormed, text_of, nearest_float}
use Rattle.std.specs.Char.{digit_value}
use lib.Ieee.{binary64, round}
use Rattle.def_number.specs.Number.{Decimal}
use Rattle.def_number.specs.Text.{last_digits, width, whole_width, digit_count, text, decimal}
use Rattle.laws_number.specs.Meaning.{Met, ReadBack}
use Rattle.laws_number.proofs.Widths.{width_above, width-step, length-last_digits}
use Rattle.laws_number.proofs.Laws.{met}
use Rattle.laws_number.proofs.Parsed.{parsed}

digit-is : (n : ℕ) → n < 10 → digit_value (48 + n) ≡ n
digit-is n h = let a : ltb (48 + n) 48 ≡ false = le-ltb (48 + n) 48 (omega arith) in let b : ltb (48 + n) 58 ≡ true = lt-ltb (48 + n) 58 (omega arith) in rw (a, b) (omega arith)

all-append : (xs ys : List ℕ) → AllDigits 10 xs → AllDigits 10 ys → AllDigits 10 (xs ++ ys)
all-append [] ys h k = k
all-append (x ∷ xs) ys h k = (h.0, all-append xs ys h.1 k)

all-digits : (k d : ℕ) → AllDigits 10 (last_digits k d)
unfolding last_digits
all-digits zero d = tt
all-digits (suc k) d = all-append (last_digits k (d / 10)) ((48 + d % 10) ∷ []) (all-digits k (d / 10)) (let l : d % 10 < 10 = omega arith in let e : digit_value (48 + d % 10) ≡ d % 10 = digit-is (d % 10) l in omega arith, tt)

low-digits : (d m : ℕ) → 0 < m → d / 10 % m * 10 + d % 10 ≡ d % (m * 10)
low-digits d m h =
    let q = d / 10 / m in
    let r = d / 10 % m in
    let a : q * m + r ≡ d / 10 = div-add-mod' (d / 10) m in
    let l : r < m = mod-lt (d / 10) h in
    let b : d ≡ q * (m * 10) + (r * 10 + d % 10) = (let g : q * m * 10 ≡ q * (m * 10) = mul_assoc q m 10 in omega arith) in
    let k : r * 10 + d % 10 < m * 10 = omega arith in
    sym (ap (λ x. x % (m * 10)) b ∙ mod-mul-add q (m * 10) (r * 10 + d % 10) k)

shifted : (a m t r v c q : ℕ) → v ≡ a * m + r → c ≡ q → t ≡ m * 10 → v * 10 + c ≡ a * t + (r * 10 + q)
shifted a m t r v c q h k e = let g : a * t ≡ a * m * 10 = ap (λ y. a * y) e ∙ sym (mul_assoc a m 10) in omega arith

-- digits, and behind them the last k digits of d
value-behind : (k d : ℕ) (xs : List ℕ) → digits_value 10 (xs ++ last_digits k d) ≡ digits_value 10 xs * 10 ^ k + d % 10 ^ k
unfolding last_digits
value-behind zero d xs = ap (digits_value 10) (append-nil xs) ∙ (let o : digits_value 10 xs ≡ digits_value 10 xs * 1 + d % 1 = omega arith in o)
value-behind (suc k) d xs =
    let ds = last_digits k (d / 10) in
    let l : d % 10 < 10 = omega arith in
    let e : digit_value (48 + d % 10) ≡ d % 10 = digit-is (d % 10) l in
    let p : 0 < 10 ^ k = one-le-pow k 10 (omega arith) in
    let t : 10 ^ suc k ≡ 10 ^ k * 10 = pow-suc 10 k in
    let m : d / 10 % 10 ^ k * 10 + d % 10 ≡ d % (10 ^ k * 10) = low-digits d (10 ^ k) p in
    let v : digits_value 10 (xs ++ ds) ≡ digits_value 10 xs * 10 ^ k + d / 10 % 10 ^ k = value-behind k (d / 10) xs in
    let b : digits_value 10 ((xs ++ ds) ++ ((48 + d % 10) ∷ [])) ≡ digits_value 10 (xs ++ ds) * 10 + digit_value (48 + d % 10) = digits_value_push 10 (xs ++ ds) (48 + d % 10) in
    ap (digits_value 10) (sym (append_assoc xs ds ((48 + d % 10) ∷ []))) ∙ b ∙ shifted (digits_value 10 xs) (10 ^ k) (10 ^ suc k) (d / 10 % 10 ^ k) (digits_value 10 (xs ++ ds)) (digit_value (48 + d % 10)) (d % 10) v e t ∙ ap (λ y. digits_value 10 xs * 10 ^ suc k + y) (m ∙ ap (λ y. d % y) (sym t))

-- ---- the text of a decimal

width-fits : (w : ℕ) → width 400 w < 400 → w < 10 ^ width 400 w
width-fits w h = elim (cases_lt w (10 ^ width 400 w)) [ inl l ↦ l | inr l ↦ let g : width 400 w < width 400 w = width_above (width 400 w) 400 w l h in absurd (omega arith) ]

module _ (x : Decimal) (short : digit_count x ≤ 25) where
  abbrev before : ℕ
  before = x.digits / 10 ^ x.places

  whole-some : 0 < whole_width x
  whole-some = elim (cases_eq before 0) [
    | inl e ↦ rw (eq-eqb before 0 e) (omega arith)
    | inr n ↦ let p : 0 < before = omega arith in rw (ne_eqb before 0 n) (let s : width 400 before ≡ suc (width 399 (before / 10)) = width-step 399 before p in omega arith)
  ]

  whole-fits : before < 10 ^ whole_width x
  whole-fits = elim (cases_eq before 0) [
    | inl e ↦ rw (eq-eqb before 0 e) (let o : before < 10 ^ 1 = omega arith in o)
    | inr n ↦
        let f : eqb before 0 ≡ false = ne_eqb before 0 n in
        let w : whole_width x ≡ width 400 before = (rw f refl) in
        rw w (width-fits before (omega arith))
  ]

  abbrev parts : Parts
  parts = record {
    whole = last_digits (whole_width x) before;
    point = not (eqb x.places 0);
    fraction = last_digits x.places x.digits;
    exponent_negative = false;
    exponent = [];
    len = length (text x);
  }

  is-text : text_of parts ≡ text x
  unfolding text last_digits
  is-text = elim (cases_eq x.places 0) [
    | inl e ↦ let f : eqb x.places 0 ≡ true = eq-eqb x.places 0 e in rw f refl
    | inr n ↦ let f : eqb x.places 0 ≡ false = ne_eqb x.places 0 n in rw f (ap (λ ys. last_digits (whole_width x) before ++ (46 ∷ ys)) (append-nil (last_digits x.places x.digits)))
  ]

  well-formed : IsWellFormed parts
  unfolding last_digits
  well-formed = record {
    whole_digits = all-digits (whole_width x) before;
    fraction_digits = all-digits x.places x.digits;
    exponent_digits = tt;
    no_point = λ h. elim (cases_eq x.places 0) [
      | inl e ↦ ap (λ k. last_digits k x.digits) e
      | inr n ↦ absurd (true≢false (sym (ap not (ne_eqb x.places 0 n)) ∙ h))
    ];
    no_exponent = λ h. refl;
    len_is = ap length (sym is-text);
  }

  value-is : digits_value 10 (parts.whole ++ parts.fraction) ≡ x.digits
  value-is =
      let v : digits_value 10 (last_digits (whole_width x) before) ≡ before = value-behind (whole_width x) before [] ∙ (let m : before % 10 ^ whole_width x ≡ before = mod-eq_of_lt whole-fits in omega arith) in
      value-behind x.places x.digits (last_digits (whole_width x) before) ∙ ap (λ y. y * 10 ^ x.places + x.digits % 10 ^ x.places) v ∙ div-add-mod' x.digits (10 ^ x.places)

  nearest-is : nearest_float binary64 false parts ≡ round binary64 false x.digits (10 ^ x.places)
  nearest-is =
      ap (λ y. round binary64 false (y * 1) (10 ^ (length (last_digits x.places x.digits) + 0))) value-is
      ∙ (let o : x.digits * 1 ≡ x.digits = omega arith in let l : length (last_digits x.places x.digits) ≡ x.places = length-last_digits x.places x.digits in let z : length (last_digits x.places x.digits) + 0 ≡ x.places = omega arith in rw (o, z) refl)

  pub back : parse_float binary64 (text x) ≡ Some (round binary64 false x.digits (10 ^ x.places))
  back = ap (λ ys. parse_float binary64 ys) (sym is-text) ∙ parse_float-text_of binary64 false parts well-formed (let l : length (last_digits (whole_width x) before) ≡ whole_width x = length-last_digits (whole_width x) before in let p : 0 < whole_width x = whole-some in omega arith) ∙ ap Some nearest-is

pub read-back : (b : ℕ) → ReadBack b (decimal b)
read-back b = by (decimal b) (met b)
  where
    by : (o : Option Decimal) → Met b o → ReadBack b o
    by (Some x) m = let l : digit_count x ≤ 25 = m.2 in back x l ∙ ap Some (parsed x.digits x.places b m.0 m.1.best.stands)
    by None m = tt

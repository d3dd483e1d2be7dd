-- What the decimal that is written for a number is, told by no search. Assumes nothing: these are definitions.
use Rattle.std.specs.Prelude.{◌≡◌, ℕ, ◌+◌, ◌-◌, ◌*◌, ◌/◌, ◌%◌, ◌^◌, ◌<◌, ◌≤◌, ◌≢◌, ◌⊎◌, ⊤, true, Option, Some, None}
use Rattle.def_number.specs.Number.{Decimal, stands_for, value, one}
use Rattle.std.specs.Float.Parse.{parse_float}
use lib.Ieee.{binary64, of_bits}
use Rattle.def_number.specs.Text.{digit_count, text}

-- how far the decimal d / 10 ^ j is from the number b
abbrev pub distance : ℕ → ℕ → ℕ → ℕ
distance d j b = (d * one - value b * 10 ^ j) + (value b * 10 ^ j - d * one)

-- of the decimals with j digits behind the point that stand for b, d's is the nearest, and of two equally near ones the even one
pub record IsNearest (b j d : ℕ) : Type 0 where
  pub stands : stands_for d j b ≡ true
  pub nearest : (c : ℕ) → stands_for c j b ≡ true → distance d j b ≤ distance c j b
  pub even : (c : ℕ) → stands_for c j b ≡ true → distance c j b ≡ distance d j b → (c ≡ d) ⊎ (d % 2 ≡ 0)

-- and no decimal with fewer digits behind the point stands for b
pub record IsShortest (b : ℕ) (x : Decimal) : Type 0 where
  pub best : IsNearest b x.places x.digits
  pub fewest : (c j : ℕ) → j < x.places → stands_for c j b ≡ true → ⊥

-- what is met by the decimal that is written, and by none: the bits are those of a number without a sign, and it has 25 digits at most
abbrev pub Met : ℕ → Option Decimal → Type 0
Met b (Some x) = (b < 2047 * 2 ^ 52) × IsShortest b x × (digit_count x ≤ 25)
Met b None = (2047 * 2 ^ 52 ≤ b) ⊎ ((x : Decimal) × IsShortest b x × (25 < digit_count x))

-- the same by the fields of 64 bits: the sign bit is 0, the exponent is not that of infinity or of no number
abbrev pub Written : ℕ → Option Decimal → Type 0
Written b (Some x) = (b / 2 ^ 63 ≡ 0) × (b / 2 ^ 52 % 2048 < 2047) × IsShortest b x × (digit_count x ≤ 25)
Written b None = (b / 2 ^ 63 ≡ 1) ⊎ ((b / 2 ^ 52 % 2048 ≡ 2047) ⊎ ((x : Decimal) × IsShortest b x × (25 < digit_count x)))

-- a decimal is read as the number that is nearest to it, and where two are equally near as the even one; 2 ^ 1024, for which the bits of infinity stand, is
-- among those that it can be nearest to
pub record IsRead (d j b : ℕ) : Type 0 where
  pub closest : (c : ℕ) → c ≤ 2047 * 2 ^ 52 → distance d j b ≤ distance d j c
  pub ties : (c : ℕ) → c ≤ 2047 * 2 ^ 52 → c ≢ b → distance d j c ≡ distance d j b → b % 2 ≡ 0

-- the text of what is written is read back as the number by the standard library's own `parse_float`, which knows nothing of this crate
abbrev pub ReadBack : ℕ → Option Decimal → Type 0
ReadBack b (Some x) = parse_float binary64 (text x) ≡ Some (of_bits binary64 b)
ReadBack b None = ⊤

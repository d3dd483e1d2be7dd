-- What is claimed of numbers in decimal. Assumes nothing: these are statements.
use Rattle.std.specs.Prelude.{◌≡◌, ℕ, ◌*◌, ◌^◌, ◌<◌, ◌≤◌, ◌↔◌, true, Option, None}
use Rattle.def_number.specs.Number.{Decimal, reads_as}
use Rattle.def_number.specs.Text.{decimal}
use Rattle.laws_number.specs.Meaning.{IsRead, IsShortest, Met, Written, ReadBack}

-- the test by which a decimal reads as a number says that the number is the nearest one, the even one where two are
abbrev pub ReadsNearest : Type 0
ReadsNearest = (d j b : ℕ) → b < 2047 * 2 ^ 52 → (reads_as d j b ≡ true) ↔ IsRead d j b

-- each number has a shortest decimal, and one only
abbrev pub HasShortest : Type 0
HasShortest = (b : ℕ) → (x : Decimal) × IsShortest b x

abbrev pub OneShortest : Type 0
OneShortest = (b : ℕ) (x y : Decimal) → IsShortest b x → IsShortest b y → x ≡ y

-- what is written of 64 bits is that decimal, or there is a reason for none; and nothing else is so
abbrev pub WrittenAsSaid : Type 0
WrittenAsSaid = (b : ℕ) → b < 2 ^ 64 → Written b (decimal b)

abbrev pub NothingElse : Type 0
NothingElse = (b : ℕ) (o : Option Decimal) → Met b o → o ≡ decimal b

-- which bits can have a decimal at all: those of 0, and those with an exponent from 941 to 1106, of numbers from 2 ^ -82 up to 2 ^ 84
abbrev pub NoneOutside : Type 0
NoneOutside = (b : ℕ) → 0 < b → (b < 941 * 2 ^ 52 → decimal b ≡ None) × (1107 * 2 ^ 52 ≤ b → decimal b ≡ None)

-- what is written is read back
abbrev pub WrittenReadsBack : Type 0
WrittenReadsBack = (b : ℕ) → ReadBack b (decimal b)

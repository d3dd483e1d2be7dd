-- Words as flags, and flags as words. Assumes nothing.
use Rattle.std.proofs.Common.{◌≡◌, ℕ, zero, suc, Bool, true, false, not, eqb, refl, ap, arith}
use borrow.Author.Tests.{ne_eqb}
use Rattle.std.specs.Int.{from_bool}
use Rattle.words.specs.Layout.{yes}

-- a test of a word against 0
pub yes-not_zero : (n : ℕ) → not (eqb n 0) ≡ yes n
yes-not_zero zero = refl
yes-not_zero (suc n) = ap not (ne_eqb (suc n) 0 (λ e. omega (arith, e)))

-- a flag stored, and read again
pub yes-from_bool : (b : Bool) → yes (from_bool b) ≡ b
yes-from_bool true = refl
yes-from_bool false = refl

-- A number's token: its text in decimal, or none. Assumes nothing: these are definitions.
use Rattle.std.specs.Prelude.{◌≡◌, Bool, true, false, List, [], ℕ, Option, Some, None}
use Rattle.def_number.specs.Number.{Decimal}
use Rattle.def_number.specs.Text.{text, decimal}
use Rattle.def_text.specs.Words.{is_number}

abbrev pub given : Option Decimal → List ℕ
given None = []
given (Some x) = text x

abbrev pub decimal_text : ℕ → List ℕ
decimal_text b = given (decimal b)

abbrev pub has_text : Option Decimal → Bool
has_text None = false
has_text (Some x) = true

-- it is a DecimalLiteral exactly where the number has a text
abbrev pub NumberToken : Type 0
NumberToken = (b : ℕ) → is_number (decimal_text b) ≡ has_text (decimal b)

-- Assumes nothing.
use Rattle.std.proofs.Common.{arith}
use Rattle.laws_number.proofs.Widths.{text_short}
use Rattle.number_text.specs.Given.{of_decimal}
use Rattle.text_tokens.proofs.own.number_len.Goals as goal

pub returns-in-Some-clause-few : goal.returns-in-Some-clause-few
returns-in-Some-clause-few c = omega (arith, c.text_len.ensures, text_short (of_decimal c.in-Some.x), c.in-Some.ensures.short)

use Rattle.std.proofs.Common.{◌≡◌, ℕ, ◌*◌, ◌^◌, ◌<◌, ◌≤◌, true, sym, subst, arith}
use Rattle.std.specs.Prelude.{Option, Some, None}
use Rattle.std.proofs.lemmas.Bool.{le-leb, lt-leb}
use Rattle.def_number.specs.Number.{is_plain, Decimal}
use Rattle.def_number.specs.Text.{whole_width, digit_count, decimal}
use Rattle.laws_number.specs.Meaning.{Written, ReadBack}
use Rattle.laws_number.proofs.Back.{read-back}
use Rattle.laws_number.proofs.Laws.{written}
use Rattle.laws_number.proofs.Written.{decimal-long, decimal-tiny, decimal-written, decimal-over, decimal-none, plain}
use Rattle.number_text.specs.Wide.{value_of}
use Rattle.number_text.specs.Given.{of_decimal}
use Rattle.number_text.proofs.Texts.{before_is}
use Rattle.number_text.proofs.decimal_of.Goals as goal

shorter : (b : ℕ) → b < 1107 * 2 ^ 52 → is_plain b ≡ true
shorter b h = plain b (omega arith)

given : (b : ℕ) (o : Option Decimal) → b < 2 ^ 64 → o ≡ decimal b → Written b o
given b o h e = subst (λ p. Written b p) (sym e) (written b h)

given-back : (b : ℕ) (o : Option Decimal) → o ≡ decimal b → ReadBack b o
given-back b o e = subst (λ p. ReadBack b p) (sym e) (read-back b)

pub returns-then-bits-clause-decimal : goal.returns-then-bits-clause-decimal
returns-then-bits-clause-decimal c = sym (decimal-long c.args.bits c.if-bits.true)

pub returns-then-before_len-x-le-MOST_DIGITS-clause-decimal : goal.returns-then-before_len-x-le-MOST_DIGITS-clause-decimal
returns-then-before_len-x-le-MOST_DIGITS-clause-decimal c =
    let b : c.before_len.result ≡ whole_width (of_decimal c.in-Some.x) = before_is c.before_len.result (value_of c.before_point.result) (value_of c.in-Some.x.digits) c.in-Some.x.places c.before_len.ensures.some c.before_point.ensures in
    let l : digit_count (of_decimal c.in-Some.x) ≤ 25 = omega arith in
    sym (decimal-written c.args.bits (of_decimal c.in-Some.x) (shorter c.args.bits c.if-bits.false) (sym c.in-Some.ensures.found) (le-leb (digit_count (of_decimal c.in-Some.x)) 25 l))

pub returns-then-before_len-x-le-MOST_DIGITS-clause-short : goal.returns-then-before_len-x-le-MOST_DIGITS-clause-short
returns-then-before_len-x-le-MOST_DIGITS-clause-short c =
    let b : c.before_len.result ≡ whole_width (of_decimal c.in-Some.x) = before_is c.before_len.result (value_of c.before_point.result) (value_of c.in-Some.x.digits) c.in-Some.x.places c.before_len.ensures.some c.before_point.ensures in
    omega arith

pub returns-else-before_len-x-le-MOST_DIGITS-clause-decimal : goal.returns-else-before_len-x-le-MOST_DIGITS-clause-decimal
returns-else-before_len-x-le-MOST_DIGITS-clause-decimal c =
    let b : c.before_len.result ≡ whole_width (of_decimal c.in-Some.x) = before_is c.before_len.result (value_of c.before_point.result) (value_of c.in-Some.x.digits) c.in-Some.x.places c.before_len.ensures.some c.before_point.ensures in
    let l : 25 < digit_count (of_decimal c.in-Some.x) = omega arith in
    sym (decimal-over c.args.bits (of_decimal c.in-Some.x) (shorter c.args.bits c.if-bits.false) (sym c.in-Some.ensures.found) (lt-leb (digit_count (of_decimal c.in-Some.x)) 25 l))

pub returns-in-None-clause-decimal : goal.returns-in-None-clause-decimal
returns-in-None-clause-decimal c = sym (decimal-none c.args.bits (shorter c.args.bits c.if-bits.false) (sym c.in-None.ensures.found))

pub returns-then-bits-clause-written : goal.returns-then-bits-clause-written
returns-then-bits-clause-written c = given c.args.bits None (omega arith) (returns-then-bits-clause-decimal c)

pub returns-then-before_len-x-le-MOST_DIGITS-clause-written : goal.returns-then-before_len-x-le-MOST_DIGITS-clause-written
returns-then-before_len-x-le-MOST_DIGITS-clause-written c = given c.args.bits (Some (of_decimal c.in-Some.x)) (omega arith) (returns-then-before_len-x-le-MOST_DIGITS-clause-decimal c)

pub returns-else-before_len-x-le-MOST_DIGITS-clause-written : goal.returns-else-before_len-x-le-MOST_DIGITS-clause-written
returns-else-before_len-x-le-MOST_DIGITS-clause-written c = given c.args.bits None (omega arith) (returns-else-before_len-x-le-MOST_DIGITS-clause-decimal c)

pub returns-in-None-clause-written : goal.returns-in-None-clause-written
returns-in-None-clause-written c = given c.args.bits None (omega arith) (returns-in-None-clause-decimal c)

pub returns-then-bits-2-clause-decimal : goal.returns-then-bits-2-clause-decimal
returns-then-bits-2-clause-decimal c = sym (decimal-tiny c.args.bits c.if-bits-gt0.true c.if-bits-2.true)

pub returns-then-bits-2-clause-written : goal.returns-then-bits-2-clause-written
returns-then-bits-2-clause-written c = given c.args.bits None (omega arith) (returns-then-bits-2-clause-decimal c)

pub returns-then-bits-clause-read_back : goal.returns-then-bits-clause-read_back
returns-then-bits-clause-read_back c = given-back c.args.bits None (returns-then-bits-clause-decimal c)

pub returns-then-bits-2-clause-read_back : goal.returns-then-bits-2-clause-read_back
returns-then-bits-2-clause-read_back c = given-back c.args.bits None (returns-then-bits-2-clause-decimal c)

pub returns-then-before_len-x-le-MOST_DIGITS-clause-read_back : goal.returns-then-before_len-x-le-MOST_DIGITS-clause-read_back
returns-then-before_len-x-le-MOST_DIGITS-clause-read_back c = given-back c.args.bits (Some (of_decimal c.in-Some.x)) (returns-then-before_len-x-le-MOST_DIGITS-clause-decimal c)

pub returns-else-before_len-x-le-MOST_DIGITS-clause-read_back : goal.returns-else-before_len-x-le-MOST_DIGITS-clause-read_back
returns-else-before_len-x-le-MOST_DIGITS-clause-read_back c = given-back c.args.bits None (returns-else-before_len-x-le-MOST_DIGITS-clause-decimal c)

pub returns-in-None-clause-read_back : goal.returns-in-None-clause-read_back
returns-in-None-clause-read_back c = given-back c.args.bits None (returns-in-None-clause-decimal c)

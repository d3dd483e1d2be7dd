-- Assumes nothing.
use Rattle.std.proofs.Common.{◌∙◌, eq-eqb}
use borrow.Author.Tests.{ne_eqb}
use Rattle.text_words.specs.Words.{word}
use Rattle.text_spots.specs.Spots.{next_of}
use Rattle.text_choice.proofs.Openings.{brace-word, function-word, let-word, async-word, opens-brace, opens-function, opens-let, opens-other}
use Rattle.text_choice.proofs.opening.opening_word.Goals as goal

pub returns-then-w-eq-BRACE : goal.returns-then-w-eq-BRACE
returns-then-w-eq-BRACE c = opens-brace (word c.args.w) (next_of c.args.next) (brace-word c.args.w ∙ eq-eqb c.args.w 0 c.if-w-eq-BRACE.true)

pub returns-then-w-eq-FUNCTION : goal.returns-then-w-eq-FUNCTION
returns-then-w-eq-FUNCTION c = opens-function (word c.args.w) (next_of c.args.next) (function-word c.args.w ∙ eq-eqb c.args.w 7 c.if-w-eq-FUNCTION.true)

pub returns-then-w-eq-LET : goal.returns-then-w-eq-LET
returns-then-w-eq-LET c = opens-let (word c.args.w) c.args.next (let-word c.args.w ∙ eq-eqb c.args.w 4 c.if-w-eq-LET.true)

pub returns-else-w-eq-LET : goal.returns-else-w-eq-LET
returns-else-w-eq-LET c =
    let w = c.args.w in
    opens-other (word w) (next_of c.args.next) (brace-word w ∙ ne_eqb w 0 c.if-w-eq-BRACE.false) (function-word w ∙ ne_eqb w 7 c.if-w-eq-FUNCTION.false) (let-word w ∙ ne_eqb w 4 c.if-w-eq-LET.false) (async-word w)

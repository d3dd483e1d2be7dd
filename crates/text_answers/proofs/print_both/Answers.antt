-- The laws of two files. Assumes nothing.
use Rattle.std.proofs.Common.{refl, sym}
use Rattle.text_answers.proofs.Calls.{call-is, text-size, text-words, same-done, pairs-done}
use Rattle.text_answers.proofs.print_both.Goals as goal

pub returns-clause-calls : goal.returns-clause-calls
returns-clause-calls c = (call-is c.print-one.ensures.is refl, call-is c.print-two.ensures.is (sym (text-size c.print-one.ensures.is)))

pub returns-clause-words : goal.returns-clause-words
returns-clause-words c = text-words c.print-one.ensures.is c.print-two.ensures.is

pub returns-clause-same : goal.returns-clause-same
returns-clause-same c y z q = same-done c.print-one.ensures.is c.print-two.ensures.is y z q

pub returns-clause-pairs : goal.returns-clause-pairs
returns-clause-pairs c a b B = pairs-done c.print-one.ensures.is c.print-two.ensures.is a b B

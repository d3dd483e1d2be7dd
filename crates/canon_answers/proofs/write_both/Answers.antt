-- The writer on two files. Assumes nothing.
use Rattle.std.proofs.Common.{refl, sym}
use Rattle.canon_answers.proofs.Calls.{call-is, canon-size, canon-words, one_file-done}
use Rattle.canon_answers.proofs.write_both.Goals as goal

pub returns-clause-calls : goal.returns-clause-calls
returns-clause-calls c = (call-is c.negbosun_canon-one.ensures refl, call-is c.negbosun_canon-two.ensures (sym (canon-size c.negbosun_canon-one.ensures)))

pub returns-clause-words : goal.returns-clause-words
returns-clause-words c = canon-words c.negbosun_canon-one.ensures c.negbosun_canon-two.ensures

pub returns-clause-one_file : goal.returns-clause-one_file
returns-clause-one_file c = one_file-done (λ i. (c.type_inv.file i).fits) (λ i. (c.type_inv.other i).fits) c.negbosun_canon-one.ensures c.negbosun_canon-two.ensures

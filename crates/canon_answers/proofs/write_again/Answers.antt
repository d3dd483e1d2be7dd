-- The writer on what it wrote. Assumes nothing.
use Rattle.std.proofs.Common.{refl, sym}
use Rattle.canon_answers.proofs.Calls.{call-is, canon-size, canon-words, within-buffer, again-done}
use Rattle.canon_answers.proofs.write_again.Goals as goal

pub written_file-requires : goal.written_file-requires
written_file-requires c = within-buffer c.negbosun_canon-one.ensures

pub returns-clause-calls : goal.returns-clause-calls
returns-clause-calls c =
    (call-is c.negbosun_canon-one.ensures refl, let e = c.written_file.ensures in let R = rw e at c.negbosun_canon-two.ensures in call-is R (sym (canon-size c.negbosun_canon-one.ensures)))

pub returns-clause-words : goal.returns-clause-words
returns-clause-words c = canon-words c.negbosun_canon-one.ensures c.negbosun_canon-two.ensures

pub returns-clause-again : goal.returns-clause-again
returns-clause-again c z l = again-done (λ i. (c.type_inv.file i).fits) c.negbosun_canon-one.ensures c.written_file.ensures c.negbosun_canon-two.ensures z l

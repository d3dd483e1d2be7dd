-- The resolver on what it wrote. Assumes nothing.
use Rattle.std.proofs.Common.{refl, sym}
use Rattle.resolve_answers.proofs.Calls.{call-is, resolved-size, resolved-words, again-done}
use Rattle.resolve_answers.proofs.resolve_again.Goals as goal

pub returns-clause-calls : goal.returns-clause-calls
returns-clause-calls c =
    (call-is c.resolve-one.ensures.is refl, let e = c.resolved_file.ensures in let R = rw e at c.resolve-two.ensures.is in call-is R (sym (resolved-size c.resolve-one.ensures.is)))

pub returns-clause-words : goal.returns-clause-words
returns-clause-words c = resolved-words c.resolve-one.ensures.is c.resolve-two.ensures.is

pub returns-clause-again : goal.returns-clause-again
returns-clause-again c z l = again-done (λ i. (c.type_inv.file i).fits) c.resolve-one.ensures.is c.resolved_file.ensures c.resolve-two.ensures.is z l

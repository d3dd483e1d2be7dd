-- The laws of two files. Assumes nothing.
use Rattle.std.proofs.Common.{refl, sym}
use Rattle.resolve_answers.proofs.Calls.{call-is, resolved-size, resolved-words, ignored-done, renamed-done}
use Rattle.resolve_answers.proofs.resolve_both.Goals as goal

pub returns-clause-calls : goal.returns-clause-calls
returns-clause-calls c = (call-is c.resolve-one.ensures.is refl, call-is c.resolve-two.ensures.is (sym (resolved-size c.resolve-one.ensures.is)))

pub returns-clause-words : goal.returns-clause-words
returns-clause-words c = resolved-words c.resolve-one.ensures.is c.resolve-two.ensures.is

pub returns-clause-ignored : goal.returns-clause-ignored
returns-clause-ignored c D l = ignored-done (λ i. (c.type_inv.file i).fits) c.resolve-one.ensures.is c.resolve-two.ensures.is D l

pub returns-clause-renamed : goal.returns-clause-renamed
returns-clause-renamed c a b N = renamed-done (λ i. (c.type_inv.file i).fits) (λ i. (c.type_inv.other i).fits) c.resolve-one.ensures.is c.resolve-two.ensures.is a b N

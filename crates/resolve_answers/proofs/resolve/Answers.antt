-- The laws of one call. Assumes nothing.
use Rattle.resolve_answers.proofs.Calls.{exactly-one-variable, each-refusal}
use Rattle.resolve_answers.proofs.resolve.Goals as goal

pub returns-clause-variables : goal.returns-clause-variables
returns-clause-variables c z =
    exactly-one-variable c.args.file.now c.args.buffer.now c.negbosun_resolve.new.buffer c.args.words.now c.negbosun_resolve.new.words c.negbosun_resolve.result (λ i. (c.type_inv.file i).fits) c.negbosun_resolve.ensures z

pub returns-clause-reason : goal.returns-clause-reason
returns-clause-reason c = each-refusal c.args.file.now c.args.buffer.now c.negbosun_resolve.new.buffer c.args.words.now c.negbosun_resolve.new.words c.negbosun_resolve.result c.negbosun_resolve.ensures

-- A file resolved and passed, then the other passed. Assumes nothing.
use Rattle.resolve_pass.proofs.Calls.{inlines-elsewhere}
use Rattle.resolve_pass.proofs.inline_elsewhere.Goals as goal

pub returns-clause-elsewhere : goal.returns-clause-elsewhere
returns-clause-elsewhere c s b E k l = inlines-elsewhere (λ i. (c.type_inv.file i).fits) c.resolve-answer.ensures.is c.resolved_file.ensures c.negbosun_inline-here.ensures c.negbosun_inline-there.ensures s b E k l

-- Two files resolved, then passed. Assumes nothing.
use Rattle.resolve_pass.proofs.Calls.{roots-renamed}
use Rattle.resolve_pass.proofs.roots_both.Goals as goal

pub returns-clause-renamed : goal.returns-clause-renamed
returns-clause-renamed c a b N k l =
    roots-renamed (λ i. (c.type_inv.file i).fits) (λ i. (c.type_inv.other i).fits) c.resolve-first.ensures.is c.resolve-next.ensures.is c.resolved_file.ensures c.resolved_file-2.ensures c.negbosun_roots-one.ensures c.negbosun_roots-two.ensures a b N k l

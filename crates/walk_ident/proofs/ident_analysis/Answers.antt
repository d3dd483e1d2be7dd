-- Two changes of the scopes in a row. Assumes nothing.
use Rattle.std.proofs.Common.{◌∙◌}
use Rattle.walk_ident.proofs.Idents as idents
use Rattle.walk_ident.proofs.ident_analysis.Goals as goal

pub returns : goal.returns
returns c = idents.analysed c.requires.0 c.requires.1 c.name_at-name.ensures.0 c.name_at-name.ensures.1 (c.add_read.auto.w ∙ c.test_read.auto.w) c.test_read.ensures c.add_read.ensures

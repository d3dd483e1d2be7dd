-- The value itself, or none. Assumes nothing.
use Rattle.std.proofs.Common.{ap, ◌∙◌}
use Rattle.words.specs.Layout.{tree}
use Rattle.scope.specs.Given.{value_at}
use Rattle.walk_declarator.proofs.Parts as parts
use Rattle.walk_declarator.proofs.kept_value.Goals as goal

pub returns : goal.returns
returns c = ap (value_at (tree c.args.w.now)) c.then_some.ensures ∙ parts.kept-is c.args.w.now c.args.i c.is_cheap.result c.requires.1 c.is_cheap.ensures

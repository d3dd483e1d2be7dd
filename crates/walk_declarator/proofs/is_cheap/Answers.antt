-- A tree's kind is that of its first node. Assumes nothing.
use Rattle.std.proofs.Common.{◌∙◌, refl}
use Rattle.words.specs.Layout.{node_of}
use Rattle.walk_declarator.proofs.Parts as parts
use Rattle.walk_declarator.proofs.is_cheap.Goals as goal

pub returns : goal.returns
returns c =
    let n = (node_of c.args.w.now c.args.i).kind in
    c.is_cheap.ensures n c.kind_at.ensures.1 ∙ parts.cheap-is c.args.w.now c.args.i n c.requires.1 refl

-- Parameters, then what is declared by `var`, from a table that has nothing. Assumes nothing.
use Rattle.std.proofs.lemmas.List.{get_or-replicate}
use Rattle.words.specs.Layout.{tree}
use Rattle.words_nodes.specs.Nodes.{forest_from}
use Rattle.words_twice.specs.declared.Seen.TheVariants.{Never}
use Rattle.words_twice.proofs.Declaring as declaring
use Rattle.words_twice.proofs.declared.Goals as goal

pub returns : goal.returns
returns c = (c.vars.ensures.size, declaring.tells-twice (forest_from (tree c.args.w.now) c.args.n c.args.i) (λ x l. get_or-replicate 256 x Never Never l) c.names.ensures c.vars.ensures)

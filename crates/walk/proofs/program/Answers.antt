-- `program` meets its contract: the script's own handler at depth 1. Assumes nothing.
use Rattle.walk_laws.proofs.Heres as heres
use Rattle.walk.proofs.program.Goals as goal

pub own-requires : goal.own-requires
own-requires c = heres.here-root c.requires

pub returns : goal.returns
returns c = c.own.ensures

use Rattle.words.specs.Place.{placed}
use Rattle.words_scopes.specs.State.{stack}
use Rattle.scope.proofs.Numbers as numbers
use Rattle.scope.proofs.var_info.idx_val.Goals as goal

pub returns : goal.returns
returns c = numbers.index_is c.args.w.now (stack c.args.w.now) c.args.x (placed c.idx_val.result) c.idx_val.ensures

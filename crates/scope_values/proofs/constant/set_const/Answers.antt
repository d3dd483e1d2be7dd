-- A store of values refilled. Assumes nothing.
use Rattle.scope_values.proofs.ConstWords.{const-set}
use Rattle.scope_values.proofs.constant.set_const.Goals as goal

pub returns : goal.returns
returns c = const-set c.requires.0 c.args.k c.requires.1 c.args.r c.requires.2 c.requires.3 c.requires.4 c.refill.ensures

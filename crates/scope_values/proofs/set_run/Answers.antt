-- A store of values refilled. Assumes nothing.
use Rattle.scope_values.proofs.Listed.{valued}
use Rattle.scope_values.proofs.set_run.Goals as goal

pub returns : goal.returns
returns c = valued c.requires.0.0 c.args.k c.requires.0.1 c.args.r c.requires.1 c.requires.2 c.refill.ensures

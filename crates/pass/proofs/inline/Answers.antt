-- The whole pass under the constant table is that without one. Assumes nothing.
use Rattle.pass.proofs.Own.{own-inline}
use Rattle.pass.proofs.inline.Goals as goal

pub returns : goal.returns
returns c = own-inline c.inline_under.ensures

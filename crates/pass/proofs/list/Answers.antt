-- The pass with its root bindings under the constant table is that without one. Assumes nothing.
use Rattle.pass.proofs.Own.{own-list}
use Rattle.pass.proofs.list.Goals as goal

pub returns : goal.returns
returns c = own-list c.list_under.ensures

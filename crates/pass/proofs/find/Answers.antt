-- The pass with the root binding of a number under the constant table is that without one. Assumes nothing.
use Rattle.pass.proofs.Own.{own-find}
use Rattle.pass.proofs.find.Goals as goal

pub returns : goal.returns
returns c = own-find c.find_under.ensures

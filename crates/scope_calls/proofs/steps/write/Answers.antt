-- A step keeps the tree. Assumes nothing.
use Rattle.scope_calls.proofs.Keep as keep
use Rattle.scope_calls.proofs.steps.write.Goals as goal

pub returns : goal.returns
returns c = keep.late _ _ _ c.add_write.result c.requires c.add_write.ensures

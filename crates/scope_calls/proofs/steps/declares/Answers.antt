-- A step keeps the tree. Assumes nothing.
use Rattle.scope_calls.proofs.Keep as keep
use Rattle.scope_calls.proofs.steps.declares.Goals as goal

pub returns : goal.returns
returns c = keep.limited _ _ _ _ _ c.declare.result c.requires c.declare.ensures

-- A step keeps the tree. Assumes nothing.
use Rattle.scope_calls.proofs.Keep as keep
use Rattle.scope_calls.proofs.steps.opens.Goals as goal

pub returns : goal.returns
returns c = keep.limited _ _ _ _ _ c.open_scope.result c.requires c.open_scope.ensures

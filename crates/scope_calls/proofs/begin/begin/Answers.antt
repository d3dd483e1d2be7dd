-- The root scope is opened. Assumes nothing.
use Rattle.scope_calls.proofs.Keep as keep
use Rattle.scope_calls.proofs.begin.begin.Goals as goal

pub returns : goal.returns
returns c = keep.limited _ _ _ _ _ c.open_scope.result c.plant.ensures c.open_scope.ensures

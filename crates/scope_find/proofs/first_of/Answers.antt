-- Where a scope's bindings begin. Assumes nothing.
use Rattle.scope_find.specs.Look.{first}
use Rattle.scope_find.proofs.first_of.Goals as goal

pub returns : goal.returns
unfolding first
returns c = c.start_of.ensures

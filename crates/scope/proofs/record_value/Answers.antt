use Rattle.scope.proofs.record_value.Goals as goal

pub record_value-requires : goal.record_value-requires
record_value-requires c = (c.requires.good, record { inside = c.run_of-r.ensures.inside; one = c.run_of-r.ensures.one })

pub returns : goal.returns
returns c = rw c.run_of-r.ensures.is at c.record_value.ensures

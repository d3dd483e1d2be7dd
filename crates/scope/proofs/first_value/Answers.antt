use Rattle.scope.proofs.first_value.Goals as goal

pub first_value-requires : goal.first_value-requires
first_value-requires c = (c.requires.good, record { inside = c.run_of-r.ensures.inside; one = c.run_of-r.ensures.one })

pub returns : goal.returns
returns c = rw c.run_of-r.ensures.is at c.first_value.ensures

use Rattle.scope.proofs.add_const.Goals as goal

pub add_const-requires : goal.add_const-requires
add_const-requires c = (c.requires.good, record { inside = c.run_of-r.ensures.inside; one = c.run_of-r.ensures.one })

pub returns : goal.returns
returns c = rw c.run_of-r.ensures.is at c.add_const.ensures

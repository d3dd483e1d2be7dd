use Rattle.walk_laws.proofs.Heres as heres
use Rattle.walk_answer.proofs.steps.settled.Goals as goal

pub kind_at-requires : goal.kind_at-requires
kind_at-requires c = heres.at-node c.requires

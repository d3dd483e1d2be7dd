use Rattle.walk_laws.proofs.Heres as heres
use Rattle.walk_answer.proofs.steps.leaf.Goals as goal

pub kind_at-requires : goal.kind_at-requires
kind_at-requires c = heres.at-node c.requires

pub arity_at-requires : goal.arity_at-requires
arity_at-requires c = heres.at-node c.requires

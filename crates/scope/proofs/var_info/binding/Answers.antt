use Rattle.scope.proofs.Numbers as numbers
use Rattle.scope.proofs.var_info.binding.Goals as goal

pub returns : goal.returns
returns c = rw c.then_some.ensures (numbers.binding-is c.args.w.now c.requires c.args.b c.known.result c.known.ensures.0 c.known.ensures.1)

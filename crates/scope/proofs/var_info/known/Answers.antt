use borrow.Author.Tests.{ltb-true, ltb-false}
use lib.ListN.{get_or}
use Rattle.scope.proofs.Numbers as numbers
use Rattle.scope.proofs.var_info.known.Goals as goal

pub returns : goal.returns
returns c = (λ e. ltb-true c.args.b (get_or c.args.w.now 1 0) e, λ e. numbers.number-out c.args.w.now c.requires c.args.b (ltb-false c.args.b (get_or c.args.w.now 1 0) e))

use borrow.Author.Tests.{ltb-true, ltb-false}
use lib.ListN.{get_or}
use Rattle.scope.proofs.Numbers as numbers
use Rattle.scope.proofs.var_info.in_tree.Goals as goal

pub returns : goal.returns
returns c = (λ e. ltb-true c.args.i (get_or c.args.w.now 0 0) e, λ e. numbers.tree-out c.args.w.now c.args.i (ltb-false c.args.i (get_or c.args.w.now 0 0) e))

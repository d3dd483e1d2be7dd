-- Scope by scope, innermost first: a constant without a value hides none. Assumes nothing.
use Rattle.scope_values.proofs.Constants.{Walked}
use Rattle.scope_values.proofs.constant.find_constant.Given as goal

abbrev pub invariant-loop-k : goal.invariant-loop-k
invariant-loop-k l = Walked l.w l.x l.k l.e

-- Node by node, as `bounds_l` goes. Assumes nothing.
use Rattle.words_targets.proofs.Targets as laws
use Rattle.words_targets.proofs.put_bound.Given as goal

abbrev pub invariant-loop-k : goal.invariant-loop-k
invariant-loop-k l = laws.Binding l.initial.w l.w l.j l.k l.more l.past

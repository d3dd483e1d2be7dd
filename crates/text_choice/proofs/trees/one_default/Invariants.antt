-- Of the trees so far `defaults` are default clauses. Assumes nothing.
use Rattle.text_choice.proofs.Defaults.{Counted}
use Rattle.text_choice.proofs.trees.one_default.Given as goal

abbrev pub invariant-loop-i : goal.invariant-loop-i
invariant-loop-i l = Counted l.nodes.file.now l.nodes.header l.k l.n l._i l.next l.defaults

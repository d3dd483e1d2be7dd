-- Name by name. Assumes nothing.
use Rattle.words_resolve.proofs.Views.{Filling}
use Rattle.words_resolve.proofs.meanings.nested.Given as goal

abbrev pub invariant-loop-x : goal.invariant-loop-x
invariant-loop-x l = Filling l.around l.seen l.number l.cut l.arguments l.inner l.x

-- Declarator by declarator. Assumes nothing.
use Prim.Native.Nat.{◌-◌}
use Rattle.def_pass.specs.Twice.{declarators}
use Rattle.words.specs.Layout.{tree}
use Rattle.words_twice.proofs.Declaring as declaring
use Rattle.words_twice.proofs.declarators.Given as goal

abbrev pub invariant-loop-k : goal.invariant-loop-k
invariant-loop-k l = declaring.Declaring declarators (tree l.w) l.i l.n l.fn.seen l.seen l.at (l.n - l._k)

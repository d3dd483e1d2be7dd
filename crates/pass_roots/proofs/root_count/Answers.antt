-- How many bindings the root has. Assumes nothing.
use native.Mathlib.Omega.{arith}
use Rattle.pass_roots.proofs.Rooted as rooted
use Rattle.pass_roots.proofs.root_count.Goals as goal

pub returns-then-w-le1 : goal.returns-then-w-le1
returns-then-w-le1 c = (rooted.roots-all c.requires c.if-w-le1.true, c.requires.count)

pub returns : goal.returns
returns c = rooted.roots-first c.requires (omega (arith, c.if-w-le1.false))

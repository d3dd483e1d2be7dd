-- A node's number. Assumes nothing.
use Rattle.std.proofs.Common.{arith}
use Rattle.scope_find.proofs.Facts as facts
use Rattle.scope_find.proofs.ident_at.Goals as goal

pub overflow_cast-result : goal.overflow_cast-result
overflow_cast-result c = omega (arith, c.num_at.ensures, facts.node-name c.args.w.now c.args.i c.requires.0.1 c.requires.0.0 c.requires.1)

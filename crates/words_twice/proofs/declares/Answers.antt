-- Its name, if it has children. Assumes nothing.
use Rattle.std.proofs.Common.{arith}
use Rattle.words_twice.proofs.Looks as looks
use Rattle.words_twice.proofs.declares.Goals as goal

pub names-requires : goal.names-requires
names-requires c = (c.requires.0, looks.first-stands c.requires.0 c.requires.1 c.arity_at.ensures (omega (arith, c.if-arity_at-gt0.true)), c.requires.2)

pub returns-then-arity_at-gt0 : goal.returns-then-arity_at-gt0
returns-then-arity_at-gt0 c = looks.declares-name c.requires.0 c.requires.1 c.arity_at.ensures (omega (arith, c.if-arity_at-gt0.true)) c.is_costly.ensures c.names.ensures

pub returns-else-arity_at-gt0 : goal.returns-else-arity_at-gt0
returns-else-arity_at-gt0 c = looks.declares-nothing c.requires.0 c.requires.1 c.arity_at.ensures (omega (arith, c.if-arity_at-gt0.false)) c.requires.2

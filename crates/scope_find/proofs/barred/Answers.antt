-- The order, or a barrier. Assumes nothing.
use Rattle.std.proofs.Common.{refl, sym, ◌∙◌}
use borrow.Author.Tests.{lt-ltb, le-ltb}
use Rattle.words_scopes.specs.State.{stack}
use Rattle.scope_find.specs.Look.{bars_here}
use Rattle.scope_find.proofs.Facts as facts
use Rattle.scope_find.proofs.barred.Goals as goal

pub returns-then-idx-v : goal.returns-then-idx-v
returns-then-idx-v c = rw (lt-ltb c.args.idx c.args.v c.if-idx-v.true) refl

pub returns-else-idx-v : goal.returns-else-idx-v
returns-else-idx-v c = c.barrier_exists.ensures ∙ sym (rw (le-ltb c.args.idx c.args.v c.if-idx-v.false) (facts.between-up (bars_here (stack c.args.w.now)) c.args.v c.args.idx c.if-idx-v.false))

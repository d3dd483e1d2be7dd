-- Where a scope begins. Assumes nothing.
use Rattle.std.proofs.Common.{sym, refl}
use borrow.Author.Tests.{lt-ltb, le-ltb}
use Rattle.std.proofs.Common.{get_or}
use Rattle.scope_find.proofs.start_of.Goals as goal

pub returns-then-k-w : goal.returns-then-k-w
returns-then-k-w c = sym (rw (lt-ltb c.args.k (get_or c.args.w.now 2 0) c.if-k-w.true) refl)

pub returns : goal.returns
returns c = sym (rw (le-ltb c.args.k (get_or c.args.w.now 2 0) c.if-k-w.false) refl)

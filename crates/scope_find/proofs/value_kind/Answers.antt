-- The kind of a value's first node. Assumes nothing.
use Rattle.scope_find.proofs.Facts as facts
use Rattle.scope_find.proofs.value_kind.Goals as goal

pub returns-then-w-k-eq0 : goal.returns-then-w-k-eq0
returns-then-w-k-eq0 c = facts.kind-none c.args.w.now c.args.k c.if-w-k-eq0.true

pub returns : goal.returns
returns c = facts.kind-first c.args.w.now c.args.k c.offset-at.result c.offset-at.ensures.0 c.if-w-k-eq0.false c.node_at.result.kind c.node_at.ensures.0

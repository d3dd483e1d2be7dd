-- Marked and counted, or as it was. Assumes nothing.
use Rattle.std.proofs.Common.{refl}
use Rattle.walk_ident.proofs.Laws as laws
use Rattle.walk_ident.proofs.counted.Goals as goal

pub returns-then-changed : goal.returns-then-changed
returns-then-changed c = rw c.if-changed.true (laws.counted-turns c.args.x _ c.set_changed.ensures c.count_one.auto.w c.count_one.ensures refl c.set_replaced.ensures)

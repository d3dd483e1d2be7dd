-- The innermost binding's reads. Assumes nothing.
use Rattle.std.proofs.Common.{suc, sym, ap}
use Rattle.scope_find.specs.Look.{reads_o}
use Rattle.scope_find.proofs.Facts as facts
use Rattle.scope_find.proofs.read_cnt.Goals as goal

pub returns-in_err-k : goal.returns-in_err-k
returns-in_err-k c = rw c.from_residual.ensures (sym (ap reads_o (facts.found_at c.args.w.now c.args.x 0 c.in_err-k.ensures.place)))

pub returns : goal.returns
returns c = sym (ap reads_o (facts.found_at c.args.w.now c.args.x (suc c.in_ok-k.k) c.in_ok-k.ensures.place))

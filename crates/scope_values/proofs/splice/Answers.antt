-- Two shifts. Assumes nothing.
use native.Mathlib.Omega.{arith}
use Rattle.scope_values.proofs.Store.{spliced}
use Rattle.scope_values.proofs.splice.Goals as goal

pub returns : goal.returns
returns c = spliced c.args.base c.args.at c.args.old c.args.end c.args.r.at c.args.r.len (omega arith) (omega arith) (omega arith) (omega arith) (omega arith) c.shift.ensures c.shift-2.ensures

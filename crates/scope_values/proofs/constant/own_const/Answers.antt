-- A scan of the innermost scope. Assumes nothing.
use Rattle.std.proofs.Common.{arith}
use Rattle.scope_values.proofs.Constants.{top-fits, own}
use Rattle.scope_values.proofs.constant.own_const.Goals as goal

pub first_at-requires : goal.first_at-requires
first_at-requires c =
    let g = c.requires.0 in
    (g.long, rw c.first_constant-a.ensures (top-fits c.args.w.now g c.requires.1), g.ccount, omega arith, omega arith)

pub returns : goal.returns
returns c = own c.args.w.now c.requires.0 c.requires.1 c.args.x c.first_at.result (rw c.first_constant-a.ensures at c.first_at.ensures)

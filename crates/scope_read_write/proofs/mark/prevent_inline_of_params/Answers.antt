-- Where the function begins, and the sweep. Assumes nothing.
use native.Mathlib.Omega.{arith}
use Rattle.scope_read_write.proofs.Fields as fields
use Rattle.scope_read_write.proofs.mark.prevent_inline_of_params.Goals as goal

pub prevent_params-requires : goal.prevent_params-requires
prevent_params-requires c = (c.requires, omega (arith, c.fn_start-lo.ensures, fields.start-low c.args.w.now c.requires))

pub returns : goal.returns
returns c = fields.params-becomes c.fn_start-lo.result c.requires c.fn_start-lo.ensures c.prevent_params.ensures

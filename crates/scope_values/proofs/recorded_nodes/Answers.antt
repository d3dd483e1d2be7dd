-- The nodes of all values. Assumes nothing.
use native.Mathlib.Omega.{arith}
use Rattle.scope_values.proofs.Count.{recorded-is}
use Rattle.scope_values.proofs.recorded_nodes.Goals as goal

pub returns : goal.returns
returns c =
    let w = c.args.w.now in
    let e = recorded-is w c.requires in
    (omega (arith, c.offset.ensures.0, c.const_offset.ensures.0), omega (arith, c.offset.ensures.1, c.const_offset.ensures.1))

-- All records. Assumes nothing.
use mathlib.Core.Path.{sym}
use native.Mathlib.Omega.{arith}
use Rattle.scope_values.proofs.Count.{live-is}
use Rattle.scope_values.proofs.live.Goals as goal

pub returns : goal.returns
returns c =
    let g = c.requires in
    (sym (live-is c.args.w.now g), omega (arith, g.count, g.ccount))

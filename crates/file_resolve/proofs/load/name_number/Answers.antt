-- `file_resolve::load::name_number` meets its contract. Assumes nothing.
use Rattle.std.proofs.Common.{arith}
use Rattle.file_resolve.proofs.Loads.{entered-old, entered-new}
use Rattle.file_resolve.proofs.load.name_number.Goals as goal

pub returns-then-known-gt0 : goal.returns-then-known-gt0
returns-then-known-gt0 c = entered-old c.args.words.now c.args.t c.requires.1 c.if-known-gt0.true

pub returns : goal.returns
returns c = entered-new c.args.words.now c.args.t c.requires.1 c.requires.0 (omega (arith, c.if-known-gt0.false))

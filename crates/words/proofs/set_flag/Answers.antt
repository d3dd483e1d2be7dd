-- The word of its bit. Assumes nothing.
use native.Mathlib.Omega.{arith}
use Rattle.words.proofs.Flags as flags
use Rattle.words.proofs.set_flag.Goals as goal

pub returns : goal.returns
returns c = rw (c.bit_of-i.ensures.0, c.bit_of-i.ensures.1) (flags.flagged c.args.w.now c.args.p c.args.x (omega arith) c.requires)

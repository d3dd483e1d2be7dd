-- Two words, and the count. Assumes nothing.
use native.Mathlib.Omega.{arith}
use Rattle.scope_values.proofs.ConstWords as words
use Rattle.scope_values.proofs.constant.push_const.Goals as goal

pub returns : goal.returns
returns c = rw c.from.ensures (words.const-pushed c.args.w.now c.requires.0 c.args.x c.requires.1 c.requires.2 (omega arith))

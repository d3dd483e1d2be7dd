-- Word 13 alone changes. Assumes nothing.
use Rattle.std.proofs.Common.{refl, arith}
use Rattle.words_state.specs.State.{rest}
use Rattle.words_state.proofs.Fields.{field-turns}
use Rattle.words_state.proofs.set_replaced.Goals as goal

pub returns : goal.returns
unfolding rest
returns c = field-turns c.args.w.now c.requires 13 c.args.v (omega arith) (omega arith) refl

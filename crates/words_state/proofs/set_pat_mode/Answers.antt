-- Word 9 alone changes, to the case's word. Assumes nothing.
use Rattle.std.proofs.Common.{ap, arith}
use Rattle.def_pass.specs.Walk.{set_pat_mode}
use Rattle.words_state.specs.State.{rest}
use Rattle.words_state.proofs.Fields.{field-turns}
use Rattle.words_state.proofs.set_pat_mode.Goals as goal

pub returns : goal.returns
unfolding rest
returns c =
    let w = c.args.w.now in
    field-turns w c.requires 9 c.from.result (omega arith) (omega arith) (ap (λ b. set_pat_mode b (rest w)) c.from.ensures.0)

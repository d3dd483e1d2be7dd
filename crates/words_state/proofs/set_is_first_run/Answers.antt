-- Word 7 alone changes, to the flag. Assumes nothing.
use Rattle.std.proofs.Common.{ap, ◌∙◌, arith}
use Rattle.def_pass.specs.Walk.{set_is_first_run}
use Rattle.words.specs.Layout.{yes}
use Rattle.words.proofs.Yes.{yes-from_bool}
use Rattle.words_state.specs.State.{rest}
use Rattle.words_state.proofs.Fields.{field-turns}
use Rattle.words_state.proofs.set_is_first_run.Goals as goal

pub returns : goal.returns
unfolding rest
returns c =
    let w = c.args.w.now in
    field-turns w c.requires 7 c.from.result (omega arith) (omega arith) (ap (λ b. set_is_first_run b (rest w)) (ap yes c.from.ensures ∙ yes-from_bool c.args.v))

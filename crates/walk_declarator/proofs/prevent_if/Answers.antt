-- A mark, or nothing. Assumes nothing.
use Rattle.std.proofs.Common.{Bool, ap}
use Rattle.words_state.specs.State.{rest}
use Rattle.def_pass.specs.Scope.{prevent_inline}
use Rattle.def_pass.specs.Walk.{when, mark}
use Rattle.walk_declarator.proofs.Acts as acts
use Rattle.walk_declarator.proofs.prevent_if.Goals as goal

pub returns-then-test : goal.returns-then-test
returns-then-test c = acts.moves-by (ap (λ (b : Bool). when b (mark (prevent_inline c.args.x)) (rest c.args.w.now)) c.if-test.true) (acts.mark-moves (prevent_inline c.args.x) c.requires c.prevent_inline.auto.w c.prevent_inline.ensures)

-- Closed, and the fields given back. Assumes nothing.
use Rattle.std.proofs.Common.{◌+◌, ◌%◌, get_or, refl, arith}
use Rattle.def_pass.specs.Scope.{ending}
use Rattle.words_scopes.specs.State.{stack}
use Rattle.words_state.specs.State.{set_ended, given_back}
use Rattle.words_state.proofs.Fields.{becomes-turns}
use Rattle.walk_ident.proofs.Laws as laws
use Rattle.walk_ident.proofs.Scopes as scopes
use Rattle.walk_ident.proofs.leave.Goals as goal

pub returns : goal.returns
returns c =
    let w = c.args.w.now in
    let b = c.close-n.ensures.0 in
    let v = (get_or c.close-n.new.w 12 0 + c.close-n.result) % 4294967296 in
    let sum = scopes.total (get_or c.close-n.new.w 12 0) (get_or w 12 0) c.close-n.result (ending (stack w)) v (b.others.low 12 (omega arith) (omega arith)) c.close-n.ensures.1 refl in
    let t = laws.then_turns (set_ended v) (becomes-turns c.requires c.close-n.auto.w b) c.set_ended.ensures in
    scopes.left_is w _ v c.args.before sum (laws.then_turns (given_back c.args.before) t c.restore_fields.ensures)

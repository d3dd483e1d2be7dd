-- A value recorded, or refused before the words change. Assumes nothing.
use Rattle.std.proofs.Common.{refl, sym, ◌∙◌}
use Rattle.std.proofs.lemmas.Result.{err_from_is_err_and}
use Rattle.def_pass.specs.Scope.{with_value}
use Rattle.words_scopes.proofs.Words.{unfound}
use Rattle.scope_values.specs.Steps.{run_value}
use Rattle.scope_values.proofs.Listed as listed
use Rattle.scope_values.proofs.record_value.Goals as goal

pub returns-in_default : goal.returns-in_default
returns-in_default c = listed.done-under (unfound c.args.w.now c.args.x (with_value (run_value c.args.w.now c.args.r)) c.requires.0 (sym c.in_default.ensures.place))

pub room_for-requires : goal.room_for-requires
room_for-requires c = listed.room-asks c.args.w.now c.requires.0 c.in-Some.k c.in-Some.ensures.bound c.args.r c.requires.1

pub returns-in_err-room_for : goal.returns-in_err-room_for
returns-in_err-room_for c =
    let w = c.args.w.now in
    let o = listed.over-value w c.requires.0 c.in-Some.k c.in-Some.ensures.bound c.args.r c.requires.1 c.args.x (sym c.in-Some.ensures.place) in
    let e = err_from_is_err_and c.from_residual.result c.from_residual.ensures.1 in
    rw (e.1, e.2) (c.in_err-room_for.ensures.0, o ∙ c.in_err-room_for.ensures.1, refl)

pub set_run-requires : goal.set_run-requires
set_run-requires c = listed.set-asks c.args.w.now c.requires.0 c.in-Some.k c.in-Some.ensures.bound c.args.r c.requires.1 _ refl c.in_ok-room_for.ensures

pub returns : goal.returns
returns c = listed.done-under (listed.value-becomes c.args.w.now c.requires.0 c.in-Some.k c.in-Some.ensures.bound c.args.r c.requires.1 c.args.x (sym c.in-Some.ensures.place) c.set_run.ensures.0)

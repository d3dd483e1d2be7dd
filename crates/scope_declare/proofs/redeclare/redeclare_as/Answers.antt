-- Its value first, then its marks. Assumes nothing.
use Rattle.std.proofs.Common.{refl, ◌∙◌, arith}
use Rattle.std.proofs.lemmas.Result.{err_from_is_err_and}
use Rattle.def_pass.specs.Scope.{VarInfo, redeclare, with_value}
use Rattle.words_scopes.specs.State.{bind_at}
use Rattle.scope_values.specs.Steps.{put_at, run_value}
use Rattle.scope_values.proofs.Listed as listed
use Rattle.scope_declare.proofs.Again.{over-re, twice, listed-count}
use Rattle.scope_declare.proofs.redeclare.redeclare_as.Goals as goal

pub room_for-requires : goal.room_for-requires
room_for-requires c = listed.room-asks c.args.w.now c.requires.0.0 c.args.k c.requires.0.1 c.args.r c.requires.1

pub returns-in_err-room_for : goal.returns-in_err-room_for
returns-in_err-room_for c =
    let w = c.args.w.now in
    let r = c.args.r in
    let new = redeclare c.args.prevented c.args.undefined (run_value w r) (bind_at w c.args.k) in
    let o = over-re w c.requires.0.0 c.args.k r.len c.requires.0.1 new (listed.count-tree w r.at r.len c.requires.1.one) in
    let e = err_from_is_err_and c.from_residual.result c.from_residual.ensures.1 in
    rw (e.1, e.2) (c.in_err-room_for.ensures.0, o ∙ c.in_err-room_for.ensures.1, refl)

pub set_run-requires : goal.set_run-requires
set_run-requires c = listed.set-asks c.args.w.now c.requires.0.0 c.args.k c.requires.0.1 c.args.r c.requires.1 _ refl c.in_ok-room_for.ensures

pub redeclare_seen-requires : goal.redeclare_seen-requires
redeclare_seen-requires c =
    let l = c.set_run.ensures.0 in
    (l.good, omega (arith, listed-count c.args.k _ c.requires.0.0 l, c.requires.0.1))

pub shape_of-w : goal.shape_of-w
shape_of-w c = c.redeclare_seen.auto.w ∙ c.set_run.auto.w

pub returns : goal.returns
returns c =
    let w = c.args.w.now in
    let v = run_value w c.args.r in
    let f : VarInfo → VarInfo = λ b. redeclare c.args.prevented c.args.undefined b.value b in
    let both = twice c.args.k (with_value v (bind_at w c.args.k)) f c.requires.0.1 c.requires.0.0 c.set_run.ensures.0 c.redeclare_seen.ensures in
    listed.done-under (listed.listed-becomes (put_at w c.args.k (redeclare c.args.prevented c.args.undefined v (bind_at w c.args.k))) refl both)

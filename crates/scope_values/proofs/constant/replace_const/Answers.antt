-- Refused before the words change. Assumes nothing.
use Rattle.std.proofs.Common.{◌+◌, ◌*◌, refl, ◌∙◌, get_or, set}
use Rattle.std.proofs.lemmas.Result.{err_from_is_err_and}
use Rattle.words_scopes.specs.State.{heads, flags, binds, consts, split}
use Rattle.scope_values.specs.Steps.{run_value}
use Rattle.scope_values.proofs.Constants as consts
use Rattle.scope_values.proofs.Listed as listed
use Rattle.scope_values.proofs.constant.replace_const.Goals as goal

pub room_for-requires : goal.room_for-requires
room_for-requires c = consts.room-asks c.args.w.now c.requires.0 c.args.k c.requires.1 c.args.r c.requires.2

pub returns-in_err-room_for : goal.returns-in_err-room_for
returns-in_err-room_for c =
    let w = c.args.w.now in
    let o = consts.over-run w c.requires.0 c.args.k c.requires.1 c.args.r c.requires.2 (get_or w (6672 + c.args.k * 2) 0) in
    let e = err_from_is_err_and c.from_residual.result c.from_residual.ensures.1 in
    rw (e.1, e.2) (c.in_err-room_for.ensures.0, o ∙ c.in_err-room_for.ensures.1, refl)

pub set_const-requires : goal.set_const-requires
set_const-requires c = (c.requires.0, c.requires.1, c.requires.2, c.requires.3, consts.put-room c.args.w.now c.requires.0 c.args.k c.requires.1 c.args.r c.requires.2 _ refl c.in_ok-room_for.ensures)

pub returns : goal.returns
returns c =
    let w = c.args.w.now in
    listed.done-under (listed.listed-becomes (split (heads w) (flags w) (binds w) (set (consts w) c.args.k (get_or w (6672 + c.args.k * 2) 0, run_value w c.args.r))) refl c.set_const.ensures)

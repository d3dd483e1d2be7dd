-- Appended without a value, which is then overwritten. Assumes nothing.
use Rattle.std.proofs.Common.{ℕ, ◌+◌, ◌-◌, refl, ap, ◌∙◌, arith, ◌||◌, ltb, [], ◌∷◌, ◌++◌}
use Rattle.std.proofs.lemmas.Result.{err_from_is_err_and}
use Rattle.words_scopes.specs.State.{stack, heads, flags, binds, consts, split}
use Rattle.def_pass.specs.Scope.{recorded_nodes, live}
use Rattle.scope_values.specs.Steps.{run_value}
use Rattle.scope_values.proofs.Constants as consts
use Rattle.scope_values.proofs.Listed as listed
use Rattle.scope_values.proofs.Count as count
use Rattle.scope_values.proofs.constant.append_const.Goals as goal

pub returns-in_err-room_for : goal.returns-in_err-room_for
returns-in_err-room_for c =
    let w = c.args.w.now in
    let r = c.args.r in
    let o = consts.over-cpush w c.requires.0 (c.args.x, run_value w r) c.requires.1 ∙ ap (λ (n : ℕ). ltb 512 (recorded_nodes (stack w) - 0 + n) || ltb 256 (live (stack w) + 1)) (listed.count-tree w r.at r.len c.requires.2.one) in
    let e = err_from_is_err_and c.from_residual.result c.from_residual.ensures.1 in
    rw (e.1, e.2) (c.in_err-room_for.ensures.0, o ∙ c.in_err-room_for.ensures.1, refl)

pub push_const-requires : goal.push_const-requires
push_const-requires c =
    let w = c.args.w.now in
    let l = listed.room (recorded_nodes (stack w) - 0 + c.args.r.len) (live (stack w) + 1) c.in_ok-room_for.ensures in
    (c.requires.0, omega (arith, l.1, count.live-is w c.requires.0), c.requires.1)

pub set_const-requires : goal.set_const-requires
set_const-requires c =
    let w = c.args.w.now in
    let r = c.args.r in
    let l = listed.room (recorded_nodes (stack w) - 0 + r.len) (live (stack w) + 1) c.in_ok-room_for.ensures in
    let t = consts.after_push w c.push_const.new.w c.requires.0 c.args.x c.push_const.ensures in
    (c.push_const.ensures.good, omega (arith, t.count), t.offered r c.requires.2, t.free r c.requires.2 c.requires.3, omega (arith, l.0, count.recorded-is w c.requires.0, t.vals))

pub returns : goal.returns
returns c =
    let w = c.args.w.now in
    let r = c.args.r in
    let u = c.push_const.new.w in
    let t = consts.after_push w u c.requires.0 c.args.x c.push_const.ensures in
    let l = rw (t.set (run_value u r), t.value r c.requires.2) at c.set_const.ensures in
    listed.done-under (listed.listed-becomes (split (heads w) (flags w) (binds w) (consts w ++ ((c.args.x, run_value w r) ∷ []))) refl (listed.listed_then c.push_const.ensures (rw c.push_const.ensures.binds at l)))

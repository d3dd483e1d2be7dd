-- Appended without a value, which is then overwritten. Assumes nothing.
use Rattle.std.proofs.Common.{ℕ, ◌+◌, ◌-◌, ◌≡◌, refl, sym, ap, ◌∙◌, subst, arith, get_or, ◌||◌, ltb}
use Rattle.std.proofs.Math.Option.{Option, none}
use Rattle.std.proofs.lemmas.Result.{err_from_is_err_and}
use Rattle.def_tree.specs.Tree.{Tree}
use Rattle.def_pass.specs.Scope.{VarInfo, Stack, fresh, append, recorded_nodes, live, with_value}
use Rattle.words_scopes.specs.Kinds.{type_of, alias_of}
use Rattle.words_scopes.specs.State.{Becomes, bind_at, stack}
use Rattle.scope_values.specs.Steps.{put_at, run_value}
use Rattle.scope_values.proofs.Listed as listed
use Rattle.scope_values.proofs.Count as count
use Rattle.scope_declare.proofs.Declares as declares
use Rattle.scope_declare.proofs.define.declare_new.Goals as goal

pub returns-in_err-room_for : goal.returns-in_err-room_for
returns-in_err-room_for c =
    let w = c.args.w.now in
    let g = c.requires.0 in
    let r = c.args.r in
    let d = c.args.d in
    let new = fresh c.args.x (type_of d.kind) (alias_of d.alias) d.prevented d.undefined (run_value w r) in
    let o = declares.over-append w g c.requires.1 new ∙ ap (λ (n : ℕ). ltb 512 (recorded_nodes (stack w) - 0 + n) || ltb 256 (live (stack w) + 1)) (listed.count-tree w r.at r.len c.requires.2.one) in
    let e = err_from_is_err_and c.from_residual.result c.from_residual.ensures.1 in
    rw (e.1, e.2) (c.in_err-room_for.ensures.0, o ∙ c.in_err-room_for.ensures.1, refl)

pub append_record-requires : goal.append_record-requires
append_record-requires c =
    let w = c.args.w.now in
    let l = listed.room (recorded_nodes (stack w) - 0 + c.args.r.len) (live (stack w) + 1) c.in_ok-room_for.ensures in
    (c.requires.0, omega (arith, l.1, count.live-is w c.requires.0), c.requires.1)

pub set_run-requires : goal.set_run-requires
set_run-requires c =
    let w = c.args.w.now in
    let d = c.args.d in
    let u = c.append_record.new.w in
    let e = c.append_record.ensures in
    let now = subst (λ (b : VarInfo). Becomes w u (append b (stack w))) (c.fresh-record.ensures c.args.x) e.0 in
    let bare = fresh c.args.x (type_of d.kind) (alias_of d.alias) d.prevented d.undefined none in
    let l = listed.room (recorded_nodes (stack w) - 0 + c.args.r.len) (live (stack w) + 1) c.in_ok-room_for.ensures in
    ((now.good, omega (arith, e.2)), listed.same-offered w u now.tree c.args.r c.requires.2, omega (arith, l.0, declares.vals-after w c.requires.0 c.requires.1 bare u now e.2))

pub returns-then-r-gt0 : goal.returns-then-r-gt0
returns-then-r-gt0 c =
    let w = c.args.w.now in
    let d = c.args.d in
    let u = c.append_record.new.w in
    let e = c.append_record.ensures in
    let now = subst (λ (b : VarInfo). Becomes w u (append b (stack w))) (c.fresh-record.ensures c.args.x) e.0 in
    let bare = fresh c.args.x (type_of d.kind) (alias_of d.alias) d.prevented d.undefined none in
    let new = fresh c.args.x (type_of d.kind) (alias_of d.alias) d.prevented d.undefined (run_value w c.args.r) in
    let s : append new (stack w) ≡ put_at u (get_or w 1 0) (with_value (run_value u c.args.r) (bind_at u (get_or w 1 0))) = rw (listed.same-value w u now.tree c.args.r c.requires.2) (sym (declares.last-valued w c.requires.0 c.requires.1 bare u now e.2 (run_value w c.args.r))) in
    listed.done-under (listed.becomes-then now (listed.listed-becomes (append new (stack w)) s c.set_run.ensures.0))

pub returns-else-r-gt0 : goal.returns-else-r-gt0
returns-else-r-gt0 c =
    let w = c.args.w.now in
    let d = c.args.d in
    let u = c.append_record.new.w in
    let no_value = ap (λ (v : Option Tree). append (fresh c.args.x (type_of d.kind) (alias_of d.alias) d.prevented d.undefined v) (stack w)) (declares.run-no-value w c.args.r.at c.args.r.len (omega (arith, c.if-r-gt0.false))) in
    let now = subst (λ (b : VarInfo). Becomes w u (append b (stack w))) (c.fresh-record.ensures c.args.x) c.append_record.ensures.0 in
    listed.done-under (subst (λ (st : Stack). Becomes w u st) (sym no_value) now)

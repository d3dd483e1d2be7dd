-- The first half, and then the marks. Assumes nothing.
use Rattle.std.proofs.Common.{◌∙◌}
use Rattle.std.proofs.lemmas.Result.{err_from_is_err_and}
use Rattle.def_tree.specs.Base.{pick}
use Rattle.def_pass.specs.Scope.{kept, prevent_inline}
use Rattle.words_scopes.specs.Kinds.{type_of, alias_of}
use Rattle.words_scopes.specs.State.{Becomes, stack}
use Rattle.scope_values.proofs.Listed.{becomes-next, done-under}
use Rattle.scope_declare.specs.Kinds.{init_at, bar_of}
use Rattle.scope_declare.specs.Declare.{put_declared}
use Rattle.scope_declare.proofs.Declares as declares
use Rattle.scope_declare.proofs.define.declare_with.Goals as goal
use Rattle.scope_declare.proofs.define.declare_with.Goals.{then-d, else-d}

pub returns-in_err-put_declared : goal.returns-in_err-put_declared
returns-in_err-put_declared c =
    let a = c.args in
    let d = c.args.d in
    let st = stack a.w.now in
    let o = declares.over-with a.x (kept (init_at a.w.now a.v a.len)) (bar_of d.barred) d.prevented d.undefined (type_of d.kind) (alias_of d.alias) d.looped st in
    let g = c.in_err-put_declared.ensures in
    let e = err_from_is_err_and c.from_residual.result c.from_residual.ensures.1 in
    rw (e.1, e.2) (g.0, o ∙ g.1, g.2)

pub prevent_inline-requires : goal.prevent_inline-requires
prevent_inline-requires c = c.in_ok-put_declared.ensures.0.good

pub prevent_inline-requires-in-Some : goal.prevent_inline-requires-in-Some
prevent_inline-requires-in-Some c = elim c.if-d.branch [ then-d v ↦ rw v.w-is v.prevent_inline.ensures.good | else-d v ↦ rw v.w-is c.in_ok-put_declared.ensures.0.good ]

pub returns-in-Some : goal.returns-in-Some
returns-in-Some c =
    let a = c.args in
    let d = c.args.d in
    let st = put_declared a.x (kept (init_at a.w.now a.v a.len)) d.prevented d.undefined (type_of d.kind) (alias_of d.alias) (stack a.w.now) in
    let g = c.in_ok-put_declared.ensures in
    let one : Becomes a.w.now c.if-d.w (pick d.looped (prevent_inline a.x st) st) =
    elim c.if-d.branch [ then-d v ↦ rw (v.w-is, v.if-d.true) (becomes-next (prevent_inline a.x) g.0 v.prevent_inline.ensures) | else-d v ↦ rw (v.w-is, v.if-d.false) g.0 ] in
    rw c.in-Some.is (done-under (becomes-next (prevent_inline c.in-Some.y) (becomes-next (prevent_inline a.x) one c.prevent_inline-in-Some.ensures) c.prevent_inline-in-Some-2.ensures))

pub returns-in_default : goal.returns-in_default
returns-in_default c =
    let a = c.args in
    let d = c.args.d in
    let st = put_declared a.x (kept (init_at a.w.now a.v a.len)) d.prevented d.undefined (type_of d.kind) (alias_of d.alias) (stack a.w.now) in
    let g = c.in_ok-put_declared.ensures in
    let one : Becomes a.w.now c.if-d.w (pick d.looped (prevent_inline a.x st) st) =
    elim c.if-d.branch [ then-d v ↦ rw (v.w-is, v.if-d.true) (becomes-next (prevent_inline a.x) g.0 v.prevent_inline.ensures) | else-d v ↦ rw (v.w-is, v.if-d.false) g.0 ] in
    rw c.in_default.is (done-under one)

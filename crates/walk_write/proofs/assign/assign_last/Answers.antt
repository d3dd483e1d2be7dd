-- By what the target and the value are. Assumes nothing.
use Rattle.refusal.proofs.Rows.{number-some}
use mathlib.Core.Path.{refl, ap, ◌∙◌}
use mathlib.Core.Logic.{inl}
use native.Mathlib.Omega.{arith}
use Rattle.def_file.specs.Named.{kind_of}
use Rattle.walk_write.proofs.AssignLast.{Free, last_none, free-alone, free-value, last-prevented, last-other, last-stop, last-alone, last_stored, target-in, value_in, store_needs}
use Rattle.walk_write.proofs.Steps.{act-exit}
use Rattle.walk_write.proofs.assign.assign_last.Goals as goal
use Rattle.walk_write.proofs.assign.assign_last.Goals.{Joined-else-n-gt1, else-n-gt1-via-then-n-gt1+else-is_inline_prevented, else-n-gt1-via-else-n-gt1}

-- the value, if there is one, is not prevented
free : (c : Joined-else-n-gt1) → Free c.requires.0 c.args.n c.args.i c.requires.1 c.if-n-eq0.false
free c = elim c.else-n-gt1.branch [
  | else-n-gt1-via-then-n-gt1+else-is_inline_prevented v ↦ free-value c.requires.0 c.args.n c.args.i c.requires.1 c.if-n-eq0.false c.skip-j.result c.skip-j.ensures.0 v.if-n-gt1.true v.is_inline_prevented.ensures v.if-is_inline_prevented.false
  | else-n-gt1-via-else-n-gt1 v ↦ free-alone c.requires.0 c.args.n c.args.i c.requires.1 c.if-n-eq0.false (omega (arith, c.if-n-eq0.false, v.if-n-gt1.false))
]

pub returns-then-n-eq0 : goal.returns-then-n-eq0
returns-then-n-eq0 c = last_none c.requires.0 c.args.n c.args.i c.if-n-eq0.true

pub skip-j-requires : goal.skip-j-requires
skip-j-requires c = (c.requires.0, target-in c.requires.0 c.args.n c.args.i c.requires.1 c.if-n-eq0.false)

pub returns-then-is_inline_prevented : goal.returns-then-is_inline_prevented
returns-then-is_inline_prevented c = last-prevented c.requires.0 c.args.n c.args.i c.requires.1 c.if-n-eq0.false c.skip-j.result c.skip-j.ensures.0 c.if-n-gt1.true c.is_inline_prevented.ensures c.if-is_inline_prevented.true c.prevent_bound.ensures

pub kind_at-requires : goal.kind_at-requires
kind_at-requires c = (c.requires.0.good.long, omega (arith, target-in c.requires.0 c.args.n c.args.i c.requires.1 c.if-n-eq0.false, c.requires.0.good.nodes))

pub returns-in_default : goal.returns-in_default
returns-in_default c =
    let g = c.requires.0 in
    let n = c.args.n in
    let i = c.args.i in
    let o = c.requires.1 in
    let h = c.if-n-eq0.false in
    let f = free (goal.at.returns-in_default c).Joined-else-n-gt1 in
    last-other g n i o h f (λ e. c.in_default.not-BindingIdent (c.kind_at.ensures.0 ∙ ap kind_of e))

pub write_ident-requires : goal.write_ident-requires
write_ident-requires c = (c.requires.0, target-in c.requires.0 c.args.n c.args.i c.requires.1 c.if-n-eq0.false, inl (rw c.in-BindingIdent.is at c.kind_at.ensures.1))

pub returns-in_err-write_ident : goal.returns-in_err-write_ident
returns-in_err-write_ident c =
    let g = c.requires.0 in
    let n = c.args.n in
    let i = c.args.i in
    let o = c.requires.1 in
    let h = c.if-n-eq0.false in
    let f = free (goal.at.returns-in_err-write_ident c).Joined-else-n-gt1 in
    act-exit _ c.from_residual.result c.from_residual.ensures.1 (last-stop g n i o h f (rw c.in-BindingIdent.is at c.kind_at.ensures.1) c.in_err-write_ident.ensures (number-some _))

pub returns-then-n-eq1 : goal.returns-then-n-eq1
returns-then-n-eq1 c =
    let g = c.requires.0 in
    let n = c.args.n in
    let i = c.args.i in
    let o = c.requires.1 in
    let h = c.if-n-eq0.false in
    let e = c.if-n-eq1.true in
    last-alone g n i o h (free-alone g n i o h e) (rw c.in-BindingIdent.is at c.kind_at.ensures.1) c.in_ok-write_ident.ensures refl e

pub store_value-requires : goal.store_value-requires
store_value-requires c =
    let g = c.requires.0 in
    let n = c.args.n in
    let i = c.args.i in
    let o = c.requires.1 in
    let h = c.if-n-eq0.false in
    store_needs i c.skip-j.result c.in_ok-write_ident.ensures refl (target-in g n i o h) (value_in g n i o h c.skip-j.result c.skip-j.ensures.0 (omega (arith, h, c.if-n-eq1.false))) (rw c.in-BindingIdent.is at c.kind_at.ensures.1)

pub returns : goal.returns
returns c =
    let g = c.requires.0 in
    let n = c.args.n in
    let i = c.args.i in
    let o = c.requires.1 in
    let h = c.if-n-eq0.false in
    let f = free (goal.at.returns c).Joined-else-n-gt1 in
    last_stored g n i o h f (rw c.in-BindingIdent.is at c.kind_at.ensures.1) c.in_ok-write_ident.ensures refl c.skip-j.ensures.0 c.if-n-eq1.false c.store_value.ensures.did

-- Only a `var`: in place, or appended. Assumes nothing.
use Rattle.std.proofs.Common.{ℕ, ◌+◌, ◌*◌, Bool, ◌||◌, ◌≡◌, get_or, sym, refl, ap, ◌∙◌, arith}
use Rattle.std.proofs.Math.Option.{none}
use Rattle.def_pass.specs.Scope.{VarInfo, is_var, with_value, append}
use Rattle.words_scopes.specs.State.{bind_at, with_count, stack}
use Rattle.scope_values.specs.Steps.{refill}
use Rattle.scope_values.proofs.Listed.{none-value, none-offered, becomes-self}
use Rattle.scope_declare.proofs.Top as top
use Rattle.scope_declare.proofs.Again.{twice, listed-count, listed-ccount}
use Rattle.scope_child.specs.Hoist.{record_at, hoist_one}
use Rattle.scope_child.proofs.Hoist.{hoist-none-is, end-other, gone, up, bare-gone, refill-gone, gone-there, gone-absent, ends_there, ends-absent}
use Rattle.scope_child.proofs.hoist_one.Goals as goal
use Rattle.scope_child.proofs.hoist_one.Goals.{then-used, else-used}

pub returns-then-not-is_var : goal.returns-then-not-is_var
returns-then-not-is_var c =
    let w = c.args.w.now in
    let other = sym (ap is_var c.record_at-closed.ensures.kind) ∙ sym c.is_var.ensures ∙ c.if-not-is_var.true in
    (becomes-self w (hoist_one (record_at w c.args.j) (stack w)) c.requires.0 (sym (hoist-none-is (record_at w c.args.j) (stack w) other)), (λ i a b. refl, λ i a b. refl), omega arith, refl, sym (end-other (record_at w c.args.j) (stack w) other))

pub set_run-requires : goal.set_run-requires
set_run-requires c =
    let g = c.requires.0 in
    ((g, c.in-Some.ensures.own.below), none-offered c.args.w.now 0 (omega arith), omega (arith, g.recorded))

pub rewrite-requires : goal.rewrite-requires
rewrite-requires c =
    let l = c.set_run.ensures.0 in
    let n = listed-count c.in-Some.k _ c.requires.0 l in
    (l.good, omega (arith, c.in-Some.ensures.own.below))

pub set_count-requires : goal.set_count-requires
set_count-requires c =
    let l = c.set_run.ensures.0 in
    let m = c.rewrite.ensures.0 in
    let n = listed-count c.in-Some.k _ c.requires.0 l in
    let k = listed-count c.in-Some.k _ l.good m in
    (m.good, omega (arith, c.in-Some.ensures.own.below))

pub returns : goal.returns
returns c =
    let w = c.args.w.now in
    let g = c.requires.0 in
    let j = c.args.j in
    let x : ℕ = get_or w (4112 + j * 10) 0 in
    let r = c.record_at-closed.result in
    let t = c.record_at-closed.ensures in
    let var = sym (ap is_var t.kind) ∙ sym c.is_var.ensures ∙ c.if-not-is_var.false in
    let p : Bool = c.if-used.hoisted in
    let either : p ≡ (c.flag_at-used.result || r.prevented) = elim c.if-used.branch [ then-used v ↦ v.hoisted-is ∙ rw v.if-used.true refl | else-used v ↦ v.hoisted-is ∙ rw v.if-used.false refl ] in
    let mark = either ∙ ap (λ (b : Bool). b || r.prevented) (c.flag_at-used.ensures ∙ sym (top.unres-at w g c.requires.1 x c.requires.4)) in
    let k = c.in-Some.k in
    let o = c.in-Some.ensures.own in
    let one = rw (none-value w 0) at c.set_run.ensures.0 in
    let both = twice k (with_value none (bind_at w k)) (refill (up w j x r t refl var p mark)) o.below g one c.rewrite.ensures.0 in
    let three = twice k (refill (up w j x r t refl var p mark) (with_value none (bind_at w k))) (with_count (get_or w (8080 + j) 0)) o.below g both c.set_count.ensures.0 in
    let all = rw (refill-gone w j x r t refl var p mark (bind_at w k) o.named) at three in (
      gone-there w j x r t refl var p mark k o all,
      (
        λ i a b. c.set_count.ensures.1.0 i (omega (arith, o.below)) b ∙ c.rewrite.ensures.1.0 i (omega (arith, o.below)) b ∙ c.set_run.ensures.1.0 i (omega (arith, o.below)) b,
        λ i a b. c.set_count.ensures.1.1 i (omega (arith, o.below)) b ∙ c.rewrite.ensures.1.1 i (omega (arith, o.below)) b ∙ c.set_run.ensures.1.1 i (omega (arith, o.below)) b,
      ),
      omega (arith, listed-count k (gone w j x r t refl var p mark) g all, c.requires.2),
      listed-ccount g all,
      ends_there w j x r t refl var p mark k o,
    )

pub returns-in_default : goal.returns-in_default
returns-in_default c =
    let w = c.args.w.now in
    let j = c.args.j in
    let x : ℕ = get_or w (4112 + j * 10) 0 in
    let r = c.record_at-closed.result in
    let t = c.record_at-closed.ensures in
    let var = sym (ap is_var t.kind) ∙ sym c.is_var.ensures ∙ c.if-not-is_var.false in
    let p : Bool = c.if-used.hoisted in
    let either : p ≡ (c.flag_at-used.result || r.prevented) = elim c.if-used.branch [ then-used v ↦ v.hoisted-is ∙ rw v.if-used.true refl | else-used v ↦ v.hoisted-is ∙ rw v.if-used.false refl ] in
    let mark = either ∙ ap (λ (b : Bool). b || r.prevented) (c.flag_at-used.ensures ∙ sym (top.unres-at w c.requires.0 c.requires.1 x c.requires.4)) in
    let e = c.append_record.ensures in
    let o = c.in_default.ensures.own in
    let s = gone-absent w j x r t refl var p mark o ∙ ap (λ (c : VarInfo). append c (stack w)) (sym (bare-gone w j x r t refl var p mark)) in
    (rw s e.0, (λ i a b. e.1.0 i (omega arith) b, λ i a b. e.1.1 i (omega arith) b), omega (arith, e.2), e.3, ends-absent w j x r t refl var p mark o)

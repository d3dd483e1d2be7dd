-- A constant; no scope; no room; and a binding more. Assumes nothing.
use Rattle.std.proofs.Common.{◌≡◌, false, ◌+◌, ◌-◌, refl, sym, ◌∙◌, arith}
use mathlib.Core.Option.{none}
use Rattle.std.proofs.lemmas.Result.{err_from_is_err_and}
use Rattle.def_pass.specs.Scope.{fresh, v_var, has_constant, recorded_nodes, live}
use Rattle.words_scopes.specs.State.{stack}
use Rattle.scope_find.specs.Answers.{write_free}
use Rattle.scope_read_write.specs.Writes.{forced}
use Rattle.scope_values.proofs.Count.{live-is}
use Rattle.scope_values.proofs.Listed.{room, done-under}
use Rattle.scope_read_write.proofs.Limits as limits
use Rattle.scope_read_write.proofs.write_free.Goals as goal
use Rattle.scope_read_write.proofs.write_free.Goals.{then-has_constant-via-then-has_constant, then-has_constant-via-else-has_constant+then-w-eq0}

pub returns-then-has_constant : goal.returns-then-has_constant
returns-then-has_constant c =
    let w = c.args.w.now in
    let x = c.args.x in
    let same : write_free x (forced c.args.how) (stack w) ≡ stack w = elim c.then-has_constant.branch [
      | then-has_constant-via-then-has_constant v ↦ rw (sym c.has_constant.ensures ∙ v.if-has_constant.true) refl
      | then-has_constant-via-else-has_constant+then-w-eq0 v ↦ rw (sym c.has_constant.ensures ∙ v.if-has_constant.false) (limits.no-scope (fresh x v_var none (forced c.args.how) false none) w v.if-w-eq0.true)
    ] in
    done-under {w = w} {st = write_free x (forced c.args.how) (stack w)} (rw same (limits.becomes-self w c.requires))

pub returns-in_err-room_for : goal.returns-in_err-room_for
returns-in_err-room_for c =
    let w = c.args.w.now in
    let x = c.args.x in
    let free : has_constant x (stack w) ≡ false = sym c.has_constant.ensures ∙ c.if-has_constant.false in
    let o = limits.over-append (fresh x v_var none (forced c.args.how) false none) w c.requires (omega arith) c.in_err-room_for.ensures.1 in
    let e = err_from_is_err_and c.from_residual.result c.from_residual.ensures.1 in
    rw (e.1, e.2, free) (c.in_err-room_for.ensures.0, o, refl)

pub push-requires : goal.push-requires
push-requires c =
    let w = c.args.w.now in
    let l = room (recorded_nodes (stack w) - 0 + 0) (live (stack w) + 1) c.in_ok-room_for.ensures in
    (c.requires, omega (arith, l.1, live-is w c.requires), omega arith)

pub returns : goal.returns
returns c =
    let w = c.args.w.now in
    let x = c.args.x in
    let e : has_constant x (stack w) ≡ false = sym c.has_constant.ensures ∙ c.if-has_constant.false in
    done-under {w = w} {st = write_free x (forced c.args.how) (stack w)} (rw (e, sym c.is_forced.ensures) c.push.ensures)

-- The sweep over the bindings from lo on. Assumes nothing.
use Rattle.std.proofs.Common.{◌≡◌, ◌≤◌, ◌<◌, get_or, sym, ap, ◌∙◌, arith}
use Rattle.def_pass.specs.Scope.{is_param}
use Rattle.scope_read_write.proofs.Fields as fields
use Rattle.scope_read_write.proofs.mark.prevent_params.Goals as goal
use Rattle.scope_read_write.proofs.mark.prevent_params.Goals.{then-is_param, else-is_param}

pub loop-k-init : goal.loop-k-init
loop-k-init c = fields.swept_none c.args.w.now c.args.lo

pub var_type-requires : goal.var_type-requires
var_type-requires c =
    let n : get_or c.loop-k.w 1 0 ≡ get_or c.args.w.now 1 0 = c.loop-k.invariant.kept.counts 1 (omega arith) (omega arith) in
    (fields.swept-good c.requires.0 c.loop-k.invariant (omega arith) (omega arith), omega arith)

pub loop-k-preserved : goal.loop-k-preserved
loop-k-preserved c =
    let w₀ = c.args.w.now in
    let k = c.loop-k.k in
    let s = c.loop-k.invariant in
    let h : k < get_or w₀ 1 0 = omega arith in
    let o : c.args.lo ≤ k = omega arith in
    elim c.if-is_param.branch [
      | then-is_param t ↦ rw t.w-is (fields.swept-hit c.requires.0 s o h (ap is_param (sym c.var_type.ensures) ∙ sym c.is_param.ensures ∙ t.if-is_param.true))
      | else-is_param t ↦ rw t.w-is (fields.swept-miss c.requires.0 s o h (ap is_param (sym c.var_type.ensures) ∙ sym c.is_param.ensures ∙ t.if-is_param.false))
    ]

pub returns : goal.returns
returns c =
    let e : c.loop-k.k ≡ get_or c.args.w.now 1 0 = omega (arith, c.requires.1) in
    fields.swept_all c.args.lo c.requires.0 (rw e at c.loop-k.invariant)

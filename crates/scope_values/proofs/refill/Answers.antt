-- A value overwritten, the later values shifted, and its length stored. Assumes nothing.
use Rattle.std.proofs.Common.{◌≡◌, ◌+◌, arith}
use Rattle.words.specs.Tab.{sum-part, sum-zero}
use Rattle.scope_values.specs.Steps.{len_in, off_in}
use Rattle.scope_values.proofs.Store.{stride, refilled, unfilled}
use Rattle.scope_values.proofs.refill.Goals as goal

pub splice-requires : goal.splice-requires
splice-requires c =
    let w = c.args.w.now in
    let t = c.args.lengths in
    let r = c.requires in
    let part = sum-part (λ j. len_in w t j) c.args.k c.args.n r.2 in
    let zero = sum-zero (λ j. len_in w t j) in
    (r.0, r.1.0, r.1.1, r.4, omega (arith, c.sum_at.ensures, part), omega (arith, c.sum_at-at.ensures, c.sum_at.ensures, zero, r.5), omega (arith, c.sum_at-at.ensures, c.sum_at.ensures, zero, r.6))

pub returns-then-old-r-eq0 : goal.returns-then-old-r-eq0
returns-then-old-r-eq0 c = unfilled c.args.w.now c.args.base c.args.lengths c.args.k c.args.n c.args.r (omega (arith, c.if-old-r-eq0.true)) (omega (arith, c.if-old-r-eq0.true))

pub returns : goal.returns
returns c =
    let w = c.args.w.now in
    let t = c.args.lengths in
    let k = c.args.k in
    let r = c.requires in
    let at : c.sum_at-at.result ≡ off_in w t k = omega (arith, c.sum_at-at.ensures, sum-zero (λ j. len_in w t j)) in
    let end : c.sum_at-at.result + c.sum_at.result ≡ off_in w t c.args.n = omega (arith, at, c.sum_at.ensures) in
    refilled r.1 k c.args.n c.args.r r.2 (stride k t.stride (omega arith) r.1.5) r.0 r.4 r.5 r.6 (rw (end, at) at c.splice.ensures)

-- Scope by scope, innermost first: a constant without a value hides none. Assumes nothing.
use Rattle.std.proofs.Common.{arith}
use Rattle.scope_values.proofs.Constants as consts
use Rattle.scope_values.proofs.constant.find_constant.Goals as goal

pub loop-k-init : goal.loop-k-init
loop-k-init c = consts.walked_all c.args.w.now c.requires c.args.x

pub first_at-requires : goal.first_at-requires
first_at-requires c =
    let t = consts.next_fits c.loop-k.invariant (omega arith) c.first_constant-a.ensures in
    (c.requires.long, t.0, omega (arith, c.requires.ccount, c.loop-k.invariant.most), omega arith, omega arith)

pub returns-then-len-gt0 : goal.returns-then-len-gt0
returns-then-len-gt0 c = consts.found_there c.loop-k.invariant (omega arith) c.first_constant-a.ensures c.in-Some.r c.in-Some.ensures c.requires c.if-len-gt0.true c.const_offset.result c.const_offset.ensures.0

pub loop-k-preserved-else-len-gt0 : goal.loop-k-preserved-else-len-gt0
loop-k-preserved-else-len-gt0 c = consts.walked-empty c.loop-k.invariant (omega arith) c.first_constant-a.ensures c.in-Some.r c.in-Some.ensures (omega arith)

pub loop-k-preserved : goal.loop-k-preserved
loop-k-preserved c = consts.walked-miss c.loop-k.invariant (omega arith) c.first_constant-a.ensures c.in_default.ensures

pub returns : goal.returns
returns c = consts.walked_none (omega arith) c.loop-k.invariant

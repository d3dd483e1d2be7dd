-- A search. Assumes nothing.
use Rattle.std.proofs.Common.{◌<◌, length, sym, ◌∙◌, arith}
use Rattle.file_canon.specs.Uses.{uses_of}
use Rattle.file_canon.proofs.Numbers.{uses-length, uses-at, index-here, index-next}
use Rattle.file_canon.proofs.uses.Uses.place_of.Goals as goal

pub loop-i-preserved : goal.loop-i-preserved
loop-i-preserved c =
    let w = c.args.words.now in
    let p = c.args.self.base in
    let us = uses_of w p in
    let i = c.loop-i.i in
    let l : i < length us = omega (arith, c.count-count.ensures) in
    let e = uses-at w p i (omega (arith, uses-length w p)) in
    omega (arith, index-next c.args.x us i l (λ q. c.if-at-x.false (c.at.ensures ∙ sym e ∙ q)), c.loop-i.invariant)

pub returns-then-at-x : goal.returns-then-at-x
returns-then-at-x c =
    let w = c.args.words.now in
    let p = c.args.self.base in
    let us = uses_of w p in
    let i = c.loop-i.i in
    let l : i < length us = omega (arith, c.count-count.ensures) in
    let e = uses-at w p i (omega (arith, uses-length w p)) in
    omega (arith, index-here c.args.x us i l (e ∙ sym c.at.ensures ∙ c.if-at-x.true), c.loop-i.invariant)

-- The sum of the earlier lengths, from one binding on. Assumes nothing.
use Rattle.std.proofs.Common.{arith}
use Rattle.words_scopes.proofs.Words.{off-room, words-bind}
use Rattle.words_scopes.proofs.offset_from.Goals as goal

pub sum_at-requires : goal.sum_at-requires
sum_at-requires c = (c.requires.0.long, c.requires.1, omega (arith, c.requires.2, c.requires.0.count), omega arith, omega arith)

pub overflow_add-result : goal.overflow_add-result
overflow_add-result c = let w = c.args.w.now in omega (arith, c.sum_at.ensures, words-bind w c.args.k, words-bind w c.args.e, off-room w c.requires.0 c.args.e c.requires.2, c.requires.3)

pub returns : goal.returns
returns c =
    let w = c.args.w.now in
    let room = off-room w c.requires.0 c.args.e c.requires.2 in
    let sum = c.sum_at.ensures in
    let from = words-bind w c.args.k in
    let to = words-bind w c.args.e in
    (omega (arith, sum, from, to, c.requires.3), omega (arith, sum, from, to, c.requires.3, room))

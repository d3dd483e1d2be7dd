-- A binding appended. Assumes nothing.
use Rattle.std.proofs.Common.{◌<◌, arith, length-set}
use Rattle.words.proofs.Stored.{put-by}
use Rattle.words_scopes.proofs.Grow.{bare-is, filled, grown}
use Rattle.words_scopes.proofs.append_record.Goals as goal

pub returns : goal.returns
returns c =
    let a = c.args in
    let small : a.id < 256 = omega arith in
    let x = c.words.ensures in
    let same = bare-is a.id _ _ a.count a.r x.1 x.2 in
    let one = put-by (simp length-set (omega (arith, c.wipe.ensures.size, c.enter.ensures.size, c.requires.0.long, c.requires.1))) (rw (c.from.ensures, x.0) at c.put.ensures) in
    let put = filled (omega (arith, c.enter.ensures.size, c.requires.0.long, c.requires.1)) c.wipe.ensures one in
    grown a.w.now c.enter.new.w c.put.new.w c.requires.0 c.requires.1 c.requires.2 _ _ _ _ _ _ _ _ a.count small (rw c.first_binding-a.ensures at c.enter.ensures) put _ same

-- One word more. Assumes nothing.
use Rattle.std.proofs.Common.{◌+◌, get_or, arith}
use Rattle.std.proofs.lemmas.Grind.{common_steps}
use Rattle.std.proofs.lemmas.Nat.{or_comm}
use Rattle.words.proofs.merge.Goals as goal

pub loop-i-preserved : goal.loop-i-preserved
loop-i-preserved c =
    let l = c.loop-i in
    rw (or_comm (get_or l.w (c.args.b + l.i) 0) (get_or l.w (c.args.a + l.i) 0)) (grind (arith, common_steps))

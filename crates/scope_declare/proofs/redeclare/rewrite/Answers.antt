-- Seven words. Assumes nothing.
use Rattle.std.proofs.Common.{arith}
use Rattle.words.proofs.Stored.{put-by}
use Rattle.scope_declare.proofs.Fields as fields
use Rattle.scope_declare.proofs.redeclare.rewrite.Goals as goal

pub returns : goal.returns
returns c =
    let a = c.args in
    let x = c.words.ensures in
    let put = put-by (omega (arith, c.requires.0.long, c.requires.0.count, c.requires.1)) (rw x.0 at c.put.ensures) in (
      fields.rewritten a.w.now c.put.new.w c.requires.0 a.k c.requires.1 a.r _ _ x.1 x.2 put,
      fields.rewritten-past a.w.now c.put.new.w c.requires.0 a.k c.requires.1 a.r _ _ x.1 x.2 put,
    )

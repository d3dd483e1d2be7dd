-- A scope opened. Assumes nothing.
use Rattle.std.proofs.Common.{arith}
use Rattle.words.proofs.Stored.{put-by}
use Rattle.words_scopes.proofs.Grow as grow
use Rattle.words_scopes.proofs.open.Goals as goal

pub returns : goal.returns
returns c = rw (← c.from.ensures.0) (grow.opened c.args.w.now c.wipe.new.w c.put.new.w c.requires.0 c.requires.1 c.from.result c.wipe.ensures (put-by (omega (arith, c.wipe.ensures.size, c.requires.0.long, c.requires.1)) c.put.ensures))

-- The fields before the first run. Assumes nothing.
use Rattle.std.proofs.Common.{arith}
use Rattle.words.proofs.Stored.{put-by}
use Rattle.pass_run.proofs.Starts.{fields, none_yet}
use Rattle.pass_run.proofs.start.set_fields.Goals as goal

pub returns : goal.returns
returns c =
    let f = fields c.from-kind.result c.from-mode.result c.from-kind.ensures.0 c.from-mode.ensures c.wipe.ensures (put-by (omega (arith, c.wipe.ensures.size, c.requires)) c.put.ensures) c.wipe-2.ensures c.wipe-3.ensures in
    record { is = f; balance = none_yet f }

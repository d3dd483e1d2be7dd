-- A word as a flag. Assumes nothing.
use Rattle.std.proofs.Common.{◌+◌, ◌*◌, get_or}
use Rattle.scope_find.proofs.Facts as facts
use Rattle.scope_find.proofs.is_set.Goals as goal

pub returns : goal.returns
returns c = facts.flag (get_or c.args.w.now (4112 + c.args.k * 10 + c.args.field) 0)

-- How many numbers there are. Assumes nothing.
use Rattle.std.proofs.Common.{sym}
use Rattle.file_canon.proofs.Numbers.{uses-length}
use Rattle.file_canon.proofs.uses.Uses.count.Goals as goal

pub returns : goal.returns
returns c = sym (uses-length c.args.words.now c.args.self.base)

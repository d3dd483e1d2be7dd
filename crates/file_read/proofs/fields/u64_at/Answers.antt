use Rattle.std.proofs.Common.{drop}
use Rattle.file_read.proofs.Numbers.{number-read}
use Rattle.file_read.proofs.fields.u64_at.Goals as goal

pub returns : goal.returns
returns c = number-read 7 (drop c.args.i c.args.b.now) c.bytes_at.ensures c.from_le_bytes.ensures

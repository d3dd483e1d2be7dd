-- A copy. Assumes nothing.
use Rattle.std.proofs.Common.{rules}
use Rattle.std.proofs.lemmas.Slice.{overwrites}
use Rattle.file_write.proofs.put.copy.Goals as goal

pub returns : goal.returns
returns c = search (rules, overwrites)

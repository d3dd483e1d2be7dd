-- A number of 4 bytes. Assumes nothing.
use Rattle.file_write.proofs.Stores.{first_number}
use Rattle.file_write.proofs.put.put_number.Goals as goal

pub returns : goal.returns
returns c = let a = c.args in (first_number a.b.now a.i 4 a.n c.to_le_bytes.ensures c.put.ensures).is

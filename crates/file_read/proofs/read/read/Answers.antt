-- `file_read::read::read` meets its contract: the constant table refuses nothing. Assumes nothing.
use Rattle.file_read.proofs.Readings.{own}
use Rattle.file_read.proofs.read.read.Goals as goal

pub returns : goal.returns
returns c = own c.read_under.ensures

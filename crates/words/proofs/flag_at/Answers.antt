-- The bit of its word. Assumes nothing.
use Rattle.words.specs.Flags.{flag_at}
use Rattle.words.proofs.Yes.{yes-not_zero}
use Rattle.words.proofs.flag_at.Goals as goal

pub returns : goal.returns
unfolding flag_at
returns c = rw (c.bit_of-i.ensures.0, c.bit_of-i.ensures.1) (yes-not_zero _)

-- Assumes nothing.
use Rattle.text_spots.proofs.Spots.{free-is}
use Rattle.text_spots.proofs.Spot.free.Goals as goal

pub returns : goal.returns
returns c = free-is c.args.self c.from.result c.from.ensures c.requires

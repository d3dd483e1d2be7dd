-- Where a node in a pair stands is where the row for the pair has its child. Assumes nothing.
use Rattle.std.proofs.Common.{refl, sym, subst}
use Rattle.text_table.specs.declared.Part.TheVariants as Parts
use Rattle.text_table.specs.Put.{inner}
use Rattle.text_spots.specs.Spots.{spot_of, InsideIs}
use Rattle.text_spots.proofs.Spots.{inner-none, inner-some, kids-there}
use Rattle.text_spots.proofs.Spot.inside.Goals as goal

pub returns-in_err-row : goal.returns-in_err-row
returns-in_err-row c = subst (InsideIs c.args.self) (sym c.from_residual.ensures) (inner-none c.args.self c.in_err-row.ensures)

pub returns-in-Kids : goal.returns-in-Kids
returns-in-Kids c = rw c.child.ensures (inner-some c.args.self c.in_ok-row.row (Parts.Kids c.in-Kids.kids) c.in-Kids.is c.in_ok-row.ensures)

pub returns-in_default : goal.returns-in_default
returns-in_default c = absurd (kids-there (inner (spot_of c.args.self)) (spot_of c.args.self) _ (inner-some c.args.self c.in_ok-row.row _ refl c.in_ok-row.ensures) c.in_default.not-Kids)

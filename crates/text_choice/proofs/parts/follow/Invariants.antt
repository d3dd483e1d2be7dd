-- Nothing stands in the parts so far. Assumes nothing.
use Rattle.std.proofs.Common.{◌≡◌, drop}
use Rattle.text_spots.specs.Spots.{next_of}
use Rattle.text_parts.specs.Parts.{follow_parts}
use Rattle.text_choice.proofs.parts.follow.Given as goal

abbrev pub invariant-loop-part : goal.invariant-loop-part
invariant-loop-part l = follow_parts l.m l.parts (next_of l.next) ≡ follow_parts l.m (drop l.part-index l.parts) (next_of l.next)

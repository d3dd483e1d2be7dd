-- What the parts begin with is what those from here on begin with. Assumes nothing.
use Rattle.std.proofs.Common.{◌≡◌, drop}
use Rattle.text_tokens.specs.Tokens.{own_of}
use Rattle.text_spots.specs.Spots.{next_of}
use Rattle.text_parts.specs.Parts.{begin_parts}
use Rattle.text_choice.specs.Choice.{first_tokens}
use Rattle.text_choice.proofs.opening.opening_parts.Given as goal

abbrev pub invariant-loop-j : goal.invariant-loop-j
invariant-loop-j l =
    begin_parts l.m (own_of l.nodes.file.now l.nodes.header l.k) (next_of l.next) (first_tokens l.nodes.file.now l.nodes.header l.k) l.parts
    ≡ begin_parts l.m (own_of l.nodes.file.now l.nodes.header l.k) (next_of l.next) (first_tokens l.nodes.file.now l.nodes.header l.k) (drop l.j l.parts)

-- Assumes nothing.
use Rattle.std.proofs.Common.{◌-◌, length, drop}
use Rattle.text_parts.proofs.Uses.{fits-drop, fits-take}
use Rattle.text_walk.proofs.rows.last_word.Goals as goal

pub follow-requires : goal.follow-requires
follow-requires c =
    let p = c.args.parts.now in
    let n = length p - c.args.j in
    (c.requires.0.0, fits-take c.requires.0.0 (drop c.args.j p) (fits-drop c.requires.0.0 p c.requires.0.1 c.args.j) n)

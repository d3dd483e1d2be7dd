-- A place made and a recorded value copied there. Assumes nothing.
use native.Mathlib.Omega.{arith}
use Rattle.words_nodes.proofs.Splice.{room, run-spliced, run-done}
use Rattle.words_nodes.proofs.put_run.Goals as goal

pub slide-requires : goal.slide-requires
slide-requires c = (c.requires.0.good.long, c.requires.0.good.nodes, rw c.requires.2 (room c.requires.0 c.requires.1), c.requires.3)

pub returns : goal.returns
returns c =
    let v = c.args.v in
    let l = room c.requires.0 c.requires.1 in
    run-done c.requires.0 c.requires.1 v.base v.run.at v.run.len c.requires.5 c.requires.6 (omega (arith, c.requires.3, c.requires.2))
    (rw c.requires.2 at (run-spliced c.slide.ensures (omega (arith, c.requires.2)) c.requires.3 v.base v.run.at v.behind c.shift.ensures))

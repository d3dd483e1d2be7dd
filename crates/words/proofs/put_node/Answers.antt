-- A node packed and stored. Assumes nothing.
use native.Mathlib.Omega.{arith}
use lib.ListN.{length-set}
use Rattle.def_file.specs.Named.{number_of}
use Rattle.words.proofs.Stored.{node-stored}
use Rattle.words.proofs.put_node.Goals as goal

pub bounds-w-p-2 : goal.bounds-w-p-2
bounds-w-p-2 c = simp length-set (omega (arith, c.requires.0, c.requires.1))

pub returns : goal.returns
returns c = let x = c.args.x in rw c.from.ensures (node-stored c.args.w.now c.args.k (number_of x.kind) x.form x.arity x.num c.requires.0 c.requires.1 c.requires.2.0 c.requires.2.1 c.requires.2.2)

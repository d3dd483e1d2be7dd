-- A node is added, and no scope. Assumes nothing.
use Rattle.def_file.specs.Named.{number_of}
use Rattle.def_tree.specs.Tree.{core}
use Rattle.scope_calls.proofs.Keep as keep
use Rattle.scope_calls.proofs.begin.grow.Goals as goal

pub returns : goal.returns
returns c = keep.grown (core (number_of c.args.kind) 0 c.args.arity c.args.num) c.add_node.ensures

-- The names of the function's first child. Assumes nothing.
use Rattle.std.proofs.Common.{refl}
use Rattle.def_tree.specs.Tree.{kids}
use Rattle.def_resolve.specs.Names.{bound_first}
use Rattle.def_resolve.specs.Scopes.{scope}
use Rattle.words.specs.Layout.{tree}
use Rattle.words_nodes.specs.Nodes.{tree_from}
use Rattle.words_resolve.proofs.Views.{view-inside}
use Rattle.words_contexts.proofs.scopes.in_name.Goals as goal

pub returns : goal.returns
returns c = view-inside (scope (bound_first (kids (tree_from (tree c.args.w.now) c.args.node)))) c.bound_first.ensures refl c.nested.ensures

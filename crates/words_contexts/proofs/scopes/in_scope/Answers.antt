-- The names and the `arguments` of the innermost scope. Assumes nothing.
use Rattle.std.proofs.Common.{◌∙◌}
use Rattle.def_resolve.specs.Scopes as scopes
use Rattle.words.specs.Layout.{tree}
use Rattle.words_nodes.specs.Nodes.{tree_from}
use Rattle.words_resolve.proofs.Views.{view-inside}
use Rattle.words_contexts.specs.Walk.{role_of, innermost}
use Rattle.words_contexts.proofs.Opened.{arguments-are}
use Rattle.words_contexts.proofs.scopes.in_scope.Goals as goal

pub returns : goal.returns
returns c = view-inside (innermost (scopes.opened (role_of c.args.role) (tree_from (tree c.args.w.now) c.args.node))) c.declared-seen.ensures (c.has_arguments-cut.ensures _ c.kind_at.ensures.1 ∙ arguments-are c.requires.0 c.requires.1 (role_of c.args.role)) c.nested.ensures

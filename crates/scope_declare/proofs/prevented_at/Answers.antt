-- Both halves. Assumes nothing.
use mathlib.Core.Path.{sym, ap, ◌∙◌}
use mathlib.Core.Bool.{Bool, ◌||◌}
use Rattle.scope_declare.proofs.Init as init
use Rattle.words_scopes.specs.State.{stack}
use Rattle.words.specs.Layout.{tree}
use Rattle.words_nodes.specs.Nodes.{tree_from}
use Rattle.def_tree.specs.Tree.{Tree}
use Rattle.def_pass.specs.Scope.{is_inline_prevented}
use Rattle.scope_declare.proofs.prevented_at.Goals as goal

pub returns-else-should_prevent_inline_because_of_scope : goal.returns-else-should_prevent_inline_because_of_scope
returns-else-should_prevent_inline_because_of_scope c =
    let w = c.args.w.now in
    c.is_inline_prevented.ensures ∙ ap (λ (t : Tree). is_inline_prevented t (stack w)) (init.node-from w c.args.i) ∙ sym (ap (λ (b : Bool). b || is_inline_prevented (tree_from (tree w) c.args.i) (stack w)) (sym c.should_prevent_inline_because_of_scope.ensures ∙ c.if-should_prevent_inline_because_of_scope.false))

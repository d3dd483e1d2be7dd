use mathlib.Core.Path.{sym, ap, ◌∙◌}
use mathlib.Core.Option.{some}
use Rattle.def_tree.specs.Tree.{Tree}
use Rattle.def_pass.specs.Scope.{find_binding, has_same_this}
use Rattle.words_scopes.specs.State.{stack}
use Rattle.scope.proofs.Numbers as numbers
use Rattle.scope.proofs.var_info.has_same_this.Goals as goal

pub returns-else-not-in_tree : goal.returns-else-not-in_tree
returns-else-not-in_tree c =
    let w = c.args.w.now in
    c.has_same_this.ensures ∙ ap (λ (t : Tree). has_same_this (find_binding c.args.x (stack w)) (some t)) (numbers.node-from w c.args.i) ∙ sym (ap (has_same_this (find_binding c.args.x (stack w))) (numbers.tree-in w c.args.i (c.in_tree.ensures.0 c.if-not-in_tree.false)))

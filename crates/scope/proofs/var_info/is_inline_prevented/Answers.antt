use mathlib.Core.Path.{sym, ap, ◌∙◌}
use mathlib.Core.Option.{Option}
use Rattle.def_tree.specs.Tree.{Tree}
use Rattle.def_pass.specs.Scope.{is_inline_prevented, prevented_o}
use Rattle.words_scopes.specs.State.{stack}
use Rattle.scope.proofs.Numbers as numbers
use Rattle.scope.proofs.var_info.is_inline_prevented.Goals as goal

pub returns-then-in_tree : goal.returns-then-in_tree
returns-then-in_tree c =
    let w = c.args.w.now in
    c.is_inline_prevented.ensures ∙ ap (λ (t : Tree). is_inline_prevented t (stack w)) (numbers.node-from w c.args.i) ∙ sym (ap (λ (o : Option Tree). prevented_o o (stack w)) (numbers.tree-in w c.args.i (c.in_tree.ensures.0 c.if-in_tree.true)))

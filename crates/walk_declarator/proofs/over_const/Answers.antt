-- A constant is recorded in the first run, with its value if that is cheap. Assumes nothing.
use Rattle.def_tree.specs.Combine.{tree_at}
use Rattle.scope.specs.Given.{value_at}
use Rattle.std.proofs.Common.{sym, ◌∙◌}
use Rattle.def_pass.specs.Scope.{add_const}
use Rattle.words.specs.Layout.{tree}
use Rattle.words_scopes.specs.State.{targeted}
use Rattle.words_nodes.specs.Nodes.{tree_from}
use Rattle.words_state.specs.State.{rest}
use Rattle.scope_values.proofs.Listed.{grown-kept}
use Rattle.walk_declarator.proofs.Acts as acts
use Rattle.walk_declarator.proofs.Parts as parts
use Rattle.walk_declarator.proofs.over_const.Goals as goal

pub returns-then-not-is_first_run-clause-did : goal.returns-then-not-is_first_run-clause-did
returns-then-not-is_first_run-clause-did c =
    let w = c.args.w.now in
    acts.moves-by (parts.const-later c.args.x (rest w) (tree_from (tree w) c.args.e) (sym c.is_first_run.ensures ∙ c.if-not-is_first_run.true)) (acts.moves-self c.requires.0 tt)

pub returns-clause-did : goal.returns-clause-did
unfolding rest tree_at tree_from
returns-clause-did c =
    let w = c.args.w.now in
    let t = tree_from (tree w) c.args.e in
    let v = value_at (tree w) c.kept_value-v.result in
    acts.moves-by (parts.const-first c.args.x (rest w) t v (sym c.kept_value-v.ensures) (sym c.is_first_run.ensures ∙ c.if-not-is_first_run.false)) (acts.grown-moves (add_const (targeted w) c.args.x v) c.requires.0 c.add_const.auto.w c.add_const.result c.add_const.ensures)

pub returns-clause-kept : goal.returns-clause-kept
returns-clause-kept c = grown-kept c.args.w.now c.add_const.new.w _ c.add_const.result c.add_const.ensures

-- Declared, and then marked if its value is prevented. Assumes nothing.
use Rattle.std.proofs.Common.{sym, ap, ◌∙◌, List}
use mathlib.Core.Option.{Option}
use Rattle.def_tree.specs.Tree.{Tree, Core}
use Rattle.def_tree.specs.Combine.{Nothing}
use Rattle.def_pass.specs.Scope.{Stack, prevented_o, is_inline_prevented, prevent_inline}
use Rattle.def_pass.specs.Walk.{St, when, mark}
use Rattle.words.specs.Layout.{tree}
use Rattle.words_scopes.specs.Kinds.{type_of}
use Rattle.words_scopes.specs.State.{stack}
use Rattle.words_nodes.specs.Nodes.{tree_from}
use Rattle.words_state.specs.State.{rest}
use Rattle.scope.specs.Handles.{tree_o}
use Rattle.scope.proofs.Numbers as numbers
use Rattle.scope.proofs.Given as given
use Rattle.walk_declarator.proofs.Acts as acts
use Rattle.walk_declarator.proofs.Parts as parts
use Rattle.walk_declarator.proofs.over_cheap.Goals as goal

pub returns-in_err-declare_m-clause-did : goal.returns-in_err-declare_m-clause-did
returns-in_err-declare_m-clause-did c =
    let w = c.args.w.now in
    let x = c.args.d.name.ident in
    let e = tree_from (tree w) c.args.e in
    acts.moves-exit _ (λ (u : Nothing) (s : St). when (is_inline_prevented e s.stack) (mark (prevent_inline x)) s) c.from_residual.result c.from_residual.ensures.1 (parts.cheap-then c.args.d.name.form x (type_of c.args.d.kind) e (rest w)) (rw (sym (given.recorded-in w c.args.e c.requires.1)) at c.in_err-declare_m.ensures.did)

pub returns-clause-did : goal.returns-clause-did
returns-clause-did c =
    let w = c.args.w.now in
    let x = c.args.d.name.ident in
    let t = tree_from (tree w) c.args.e in
    let p = rw (sym (given.recorded-in w c.args.e c.requires.1)) at c.in_ok-declare_m.ensures.did in
    let e = c.is_inline_prevented-test.ensures ∙ ap (λ (o : Option Tree). prevented_o o (stack c.declare_m.new.w)) (ap (λ (ns : List Core). tree_o ns c.args.e) p.nodes ∙ numbers.tree-in w c.args.e c.requires.1) ∙ ap (λ (st : Stack). is_inline_prevented t st) (sym (acts.rest-stack c.declare_m.new.w)) in
    acts.moves-by (parts.cheap-then c.args.d.name.form x (type_of c.args.d.kind) t (rest w)) (acts.moves-then (λ (u : Nothing) (s : St). when (is_inline_prevented t s.stack) (mark (prevent_inline x)) s) p (rw e at c.prevent_if.ensures))

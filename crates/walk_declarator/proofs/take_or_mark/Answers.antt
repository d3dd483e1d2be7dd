-- Marked if the initialiser is prevented. Assumes nothing.
use Rattle.std.proofs.Common.{false, sym, ap, ◌∙◌}
use mathlib.Core.Option.{Option}
use Rattle.def_tree.specs.Tree.{Tree}
use Rattle.def_tree.specs.Combine.{ret}
use Rattle.def_pass.specs.Scope.{Stack, is_inline_prevented, prevent_inline, prevented_o}
use Rattle.words.specs.Layout.{tree}
use Rattle.words_scopes.specs.Kinds.{type_of}
use Rattle.words_scopes.specs.State.{stack}
use Rattle.words_nodes.specs.Nodes.{tree_from}
use Rattle.words_state.specs.State.{rest}
use Rattle.scope.proofs.Numbers as numbers
use Rattle.walk_declarator.proofs.Acts as acts
use Rattle.walk_declarator.proofs.Parts as parts
use Rattle.walk_declarator.proofs.take_or_mark.Goals as goal

pub returns-then-is_inline_prevented-clause-did : goal.returns-then-is_inline_prevented-clause-did
returns-then-is_inline_prevented-clause-did c =
    let w = c.args.w.now in
    let m = c.args.d.name in
    let t = tree_from (tree w) c.args.e in
    let q = ap (λ (st : Stack). is_inline_prevented t st) (acts.rest-stack w) ∙ ap (λ (o : Option Tree). prevented_o o (stack w)) (sym (numbers.tree-in w c.args.e c.requires.1)) ∙ sym c.is_inline_prevented.ensures ∙ c.if-is_inline_prevented.true in
    let p = acts.mark-moves (prevent_inline m.ident) c.requires.0 c.prevent_inline.auto.w c.prevent_inline.ensures in
    acts.moves-by (parts.marked m.form m.ident (type_of c.args.d.kind) t (rest w) q) (acts.moves-then (λ u. ret false) p (acts.moves-self p.ok.planted false))

pub returns-clause-did : goal.returns-clause-did
returns-clause-did c =
    let w = c.args.w.now in
    let m = c.args.d.name in
    let t = tree_from (tree w) c.args.e in
    acts.moves-by (parts.unmarked m.form m.ident (type_of c.args.d.kind) t (rest w) (ap (λ (st : Stack). is_inline_prevented t st) (acts.rest-stack w) ∙ ap (λ (o : Option Tree). prevented_o o (stack w)) (sym (numbers.tree-in w c.args.e c.requires.1)) ∙ sym c.is_inline_prevented.ensures ∙ c.if-is_inline_prevented.false)) c.take_value.ensures.did

-- Declared, and then marked if its value has a `this`. Assumes nothing.
use Rattle.std.proofs.Common.{sym, ap, ◌∙◌, List}
use Rattle.def_tree.specs.Tree.{Core}
use Rattle.def_tree.specs.Combine.{Nothing, ret, ◌>>◌}
use Rattle.def_pass.specs.Tree.{has_this}
use Rattle.def_pass.specs.Scope.{prevent_inline}
use Rattle.def_pass.specs.Walk.{when, mark}
use Rattle.words.specs.Layout.{tree}
use Rattle.words_scopes.specs.Kinds.{type_of}
use Rattle.words_nodes.specs.Nodes.{tree_from}
use Rattle.words_state.specs.State.{rest}
use Rattle.scope.proofs.Given as given
use Rattle.walk_declarator.proofs.Acts as acts
use Rattle.walk_declarator.proofs.Parts as parts
use Rattle.walk_declarator.proofs.over_other.Goals as goal

pub has_this-test-requires : goal.has_this-test-requires
has_this-test-requires c =
    let p = c.in_ok-declare_m.ensures.did in
    (p.ok.planted, rw (acts.moves-count p) c.requires.1)

pub returns-in_err-declare_m-clause-did : goal.returns-in_err-declare_m-clause-did
returns-in_err-declare_m-clause-did c =
    let w = c.args.w.now in
    let x = c.args.d.name.ident in
    let e = tree_from (tree w) c.args.e in
    acts.moves-exit _ (λ (u : Nothing). when (has_this e) (mark (prevent_inline x)) >> ret (has_this e)) c.from_residual.result c.from_residual.ensures.1 (parts.other-then c.args.d.name.form x (type_of c.args.d.kind) e (rest w)) (rw (sym (given.seen-in w c.args.e c.requires.1)) at c.in_err-declare_m.ensures.did)

pub returns-clause-did : goal.returns-clause-did
returns-clause-did c =
    let w = c.args.w.now in
    let x = c.args.d.name.ident in
    let t = tree_from (tree w) c.args.e in
    let p = rw (sym (given.seen-in w c.args.e c.requires.1)) at c.in_ok-declare_m.ensures.did in
    let e = c.has_this-test.ensures ∙ ap (λ (ns : List Core). has_this (tree_from ns c.args.e)) p.nodes in
    rw (sym e) at (acts.moves-by (parts.other-then c.args.d.name.form x (type_of c.args.d.kind) t (rest w)) (acts.moves-then (λ (u : Nothing). when (has_this t) (mark (prevent_inline x)) >> ret (has_this t)) p (acts.moves-then (λ u. ret (has_this t)) (rw e at c.prevent_if.ensures) (acts.moves-self c.prevent_if.ensures.ok.planted (has_this t)))))

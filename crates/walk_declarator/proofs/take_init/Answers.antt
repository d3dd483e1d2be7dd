-- One step after the other. Assumes nothing.
use Rattle.def_tree.specs.Combine.{Nothing}
use Rattle.words.specs.Layout.{tree}
use Rattle.words_scopes.specs.Kinds.{type_of}
use Rattle.words_nodes.specs.Nodes.{tree_from}
use Rattle.words_state.specs.State.{rest}
use Rattle.walk_declarator.specs.Steps.{take_or_mark}
use Rattle.walk_declarator.proofs.Acts as acts
use Rattle.walk_declarator.proofs.Parts as parts
use Rattle.walk_declarator.proofs.take_init.Goals as goal

pub take_or_mark-requires : goal.take_or_mark-requires
take_or_mark-requires c =
    let p = c.in_ok-take_ident.ensures.did in
    (p.ok.planted, rw (acts.moves-count p) c.requires.1)

pub returns-in_err-take_ident : goal.returns-in_err-take_ident
returns-in_err-take_ident c =
    let w = c.args.w.now in
    let m = c.args.d.name in
    let k = type_of c.args.d.kind in
    let t = tree_from (tree w) c.args.e in
    acts.moves-exit _ (λ (u : Nothing). take_or_mark m.form m.ident k t) c.from_residual.result c.from_residual.ensures.1 (parts.init-then m.form m.ident k t (rest w)) c.in_err-take_ident.ensures.did

pub returns : goal.returns
returns c =
    let w = c.args.w.now in
    let m = c.args.d.name in
    let k = type_of c.args.d.kind in
    let t = tree_from (tree w) c.args.e in
    let p = c.in_ok-take_ident.ensures.did in
    acts.moves-by (parts.init-then m.form m.ident k t (rest w)) (acts.moves-then (λ (u : Nothing). take_or_mark m.form m.ident k t) p (rw p.nodes at c.take_or_mark.ensures.did))

-- What is taken out leaves the tree and the count together. Assumes nothing.
use Rattle.std.proofs.Common.{◌-◌, List, ap, ◌∙◌}
use Rattle.refusal.proofs.Rows.{exit}
use Rattle.def_tree.specs.Tree.{Core, count}
use Rattle.words_scopes.specs.Kinds.{type_of}
use Rattle.words_nodes.specs.Nodes.{tree_from}
use Rattle.words_state.specs.State.{abs}
use Rattle.walk_declarator.specs.Steps.{Did, name_of, declr_after}
use Rattle.walk_declarator.proofs.Ends as ends
use Rattle.walk_declarator.proofs.after_init.Goals as goal

pub take_init-requires : goal.take_init-requires
take_init-requires c = (c.requires.0, ends.init-in c.requires.0 c.args.d.name.form c.args.d.name.ident (type_of c.args.d.kind) c.args.s c.requires.1 c.requires.2)

pub cut_init-requires : goal.cut_init-requires
cut_init-requires c =
    let p = rw c.if-gone.true at c.in_ok-gone.ensures in
    (p.ok.planted, rw p.nodes (ends.spot-child c.requires.1 c.requires.2), rw p.nodes (c.requires.1.end c.requires.2))

pub returns-then-gone : goal.returns-then-gone
returns-then-gone c =
    let s = c.args.s in
    let p = rw c.if-gone.true at c.in_ok-gone.ensures in
    rw (c.cut_init.ensures.1 ∙ ap (λ (l : List Core). s.j - count (tree_from l s.i)) p.nodes) (ends.init-gone c.requires.0 c.args.d.name.form c.args.d.name.ident (type_of c.args.d.kind) s c.requires.1 c.requires.2 p c.cut_init.ensures.0)

pub returns-in_err-gone : goal.returns-in_err-gone
returns-in_err-gone c =
    let w = c.args.w.now in
    let m = c.args.d.name in
    let s = c.args.s in
    let k = type_of c.args.d.kind in
    exit (λ r. Did w c.take_init.new.w r (declr_after s.q k (name_of m) s.n s.i s.j (abs w))) c.from_residual.result c.from_residual.ensures.1 (ends.init-stop c.requires.0 m.form m.ident k s c.requires.1 c.requires.2 _ c.in_err-gone.ensures)

pub returns : goal.returns
returns c = ends.init-kept c.requires.0 c.args.d.name.form c.args.d.name.ident (type_of c.args.d.kind) c.args.s c.requires.1 c.requires.2 (rw c.if-gone.false at c.in_ok-gone.ensures)

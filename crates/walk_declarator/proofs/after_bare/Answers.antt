-- Declared, and nothing is taken out. Assumes nothing.
use Rattle.std.proofs.Common.{suc, false, ap, ◌∙◌}
use Rattle.refusal.proofs.Rows.{exit}
use Rattle.def_tree.specs.Combine.{ret}
use Rattle.words.specs.Layout.{tree}
use Rattle.words_scopes.specs.Kinds.{type_of}
use Rattle.words_state.specs.State.{rest, abs}
use Rattle.walk_declarator.specs.Steps.{Did, name_of, declr_after}
use Rattle.walk_declarator.proofs.Acts as acts
use Rattle.walk_declarator.proofs.Ends as ends
use Rattle.walk_declarator.proofs.after_bare.Goals as goal

pub returns-in_err-declare_m-clause-did : goal.returns-in_err-declare_m-clause-did
returns-in_err-declare_m-clause-did c =
    let w = c.args.w.now in
    let m = c.args.d.name in
    let s = c.args.s in
    let k = type_of c.args.d.kind in
    let p = c.in_err-declare_m.ensures.did in
    let d = ends.after_stop k (name_of m) s.q 0 s.i s.j _ (acts.moves-by (ends.bare-here m.form m.ident k (tree w) s.i (rest w)) (acts.moves-stop (λ u. ret false) p)) in
    exit (λ r. Did w c.declare_m.new.w r (declr_after s.q k (name_of m) s.n s.i s.j (abs w))) c.from_residual.result c.from_residual.ensures.1 (rw c.requires.2 d)

pub returns-clause-did : goal.returns-clause-did
returns-clause-did c =
    let w = c.args.w.now in
    let m = c.args.d.name in
    let s = c.args.s in
    let k = type_of c.args.d.kind in
    let p = c.in_ok-declare_m.ensures.did in
    rw c.requires.2 (ends.after_kept k (name_of m) s.q 0 s.i s.j (c.requires.1.arity ∙ ap suc c.requires.2) (acts.moves-by (ends.bare-here m.form m.ident k (tree w) s.i (rest w)) (acts.moves-then (λ u. ret false) p (acts.moves-self p.ok.planted false))))

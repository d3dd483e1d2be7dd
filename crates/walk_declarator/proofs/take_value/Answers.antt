-- Declared with its value, or nothing. Assumes nothing.
use Rattle.std.proofs.Common.{true, false, sym, ap, ◌∙◌}
use Rattle.def_tree.specs.Combine.{ret}
use Rattle.def_pass.specs.Scope.{Stack}
use Rattle.words.specs.Layout.{tree}
use Rattle.words_scopes.specs.Kinds.{type_of}
use Rattle.words_nodes.specs.Nodes.{tree_from}
use Rattle.words_state.specs.State.{rest}
use Rattle.scope.proofs.Given as given
use Rattle.walk_declarator.specs.Steps.{wants}
use Rattle.walk_declarator.proofs.Acts as acts
use Rattle.walk_declarator.proofs.Parts as parts
use Rattle.walk_declarator.proofs.take_value.Goals as goal

pub returns-in_err-declare_m-clause-did : goal.returns-in_err-declare_m-clause-did
returns-in_err-declare_m-clause-did c =
    let w = c.args.w.now in
    let m = c.args.d.name in
    let t = tree_from (tree w) c.args.e in
    let q = ap (λ (st : Stack). wants m.ident t st) (acts.rest-stack w) ∙ sym c.wanted.ensures ∙ c.if-wanted.true in
    acts.moves-exit _ (λ u. ret true) c.from_residual.result c.from_residual.ensures.1 (parts.value-yes m.form m.ident (type_of c.args.d.kind) t (rest w) q) (rw (sym (given.recorded-in w c.args.e c.requires.1)) at c.in_err-declare_m.ensures.did)

pub returns-then-wanted-clause-did : goal.returns-then-wanted-clause-did
returns-then-wanted-clause-did c =
    let w = c.args.w.now in
    let m = c.args.d.name in
    let t = tree_from (tree w) c.args.e in
    let q = ap (λ (st : Stack). wants m.ident t st) (acts.rest-stack w) ∙ sym c.wanted.ensures ∙ c.if-wanted.true in
    let p = rw (sym (given.recorded-in w c.args.e c.requires.1)) at c.in_ok-declare_m.ensures.did in
    acts.moves-by (parts.value-yes m.form m.ident (type_of c.args.d.kind) t (rest w) q) (acts.moves-then (λ u. ret true) p (acts.moves-self p.ok.planted true))

pub returns-clause-did : goal.returns-clause-did
returns-clause-did c =
    let w = c.args.w.now in
    let m = c.args.d.name in
    let t = tree_from (tree w) c.args.e in
    acts.moves-by (parts.value-no m.form m.ident (type_of c.args.d.kind) t (rest w) (ap (λ (st : Stack). wants m.ident t st) (acts.rest-stack w) ∙ sym c.wanted.ensures ∙ c.if-wanted.false)) (acts.moves-self c.requires.0 false)

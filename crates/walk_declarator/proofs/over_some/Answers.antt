-- By what is declared, and by its value. Assumes nothing.
use Rattle.std.proofs.Common.{false, ap, sym, ◌∙◌}
use Rattle.def_tree.specs.Combine.{ret}
use Rattle.def_pass.specs.Scope.{is_const}
use Rattle.words.specs.Layout.{tree}
use Rattle.words_scopes.specs.Kinds.{type_of}
use Rattle.words_nodes.specs.Nodes.{tree_from}
use Rattle.words_state.specs.State.{rest}
use Rattle.walk_declarator.proofs.Acts as acts
use Rattle.walk_declarator.proofs.Parts as parts
use Rattle.walk_declarator.proofs.over_some.Goals as goal

pub returns-in_err-over_const-clause-did : goal.returns-in_err-over_const-clause-did
returns-in_err-over_const-clause-did c =
    let w = c.args.w.now in
    let q = ap is_const (sym c.var_decl_kind-kind.ensures) ∙ sym c.is_const.ensures ∙ c.if-is_const.true in
    acts.moves-exit _ (λ u. ret false) c.from_residual.result c.from_residual.ensures.1 (parts.some-const c.args.name.form c.args.name.ident (rest w) (tree_from (tree w) c.args.e) q) c.in_err-over_const.ensures.did

pub returns-then-is_const-clause-did : goal.returns-then-is_const-clause-did
returns-then-is_const-clause-did c =
    let w = c.args.w.now in
    let q = ap is_const (sym c.var_decl_kind-kind.ensures) ∙ sym c.is_const.ensures ∙ c.if-is_const.true in
    let p = c.in_ok-over_const.ensures.did in
    acts.moves-by (parts.some-const c.args.name.form c.args.name.ident (rest w) (tree_from (tree w) c.args.e) q) (acts.moves-then (λ u. ret false) p (acts.moves-self p.ok.planted false))

pub returns-in_err-over_cheap-clause-did : goal.returns-in_err-over_cheap-clause-did
returns-in_err-over_cheap-clause-did c =
    let w = c.args.w.now in
    let q = ap is_const (sym c.var_decl_kind-kind.ensures) ∙ sym c.is_const.ensures ∙ c.if-is_const.false in
    acts.moves-exit _ (λ u. ret false) c.from_residual-in_err-over_cheap.result c.from_residual-in_err-over_cheap.ensures.1 (parts.some-cheap c.args.name.form c.args.name.ident (rest w) (tree_from (tree w) c.args.e) (type_of c.var_decl_kind-kind.result) c.var_decl_kind-kind.ensures q (sym c.is_cheap.ensures ∙ c.if-is_cheap.true)) c.in_err-over_cheap.ensures.did

pub returns-then-is_cheap-clause-did : goal.returns-then-is_cheap-clause-did
returns-then-is_cheap-clause-did c =
    let w = c.args.w.now in
    let q = ap is_const (sym c.var_decl_kind-kind.ensures) ∙ sym c.is_const.ensures ∙ c.if-is_const.false in
    let p = c.in_ok-over_cheap.ensures.did in
    acts.moves-by (parts.some-cheap c.args.name.form c.args.name.ident (rest w) (tree_from (tree w) c.args.e) (type_of c.var_decl_kind-kind.result) c.var_decl_kind-kind.ensures q (sym c.is_cheap.ensures ∙ c.if-is_cheap.true)) (acts.moves-then (λ u. ret false) p (acts.moves-self p.ok.planted false))

pub returns-clause-did : goal.returns-clause-did
returns-clause-did c =
    let w = c.args.w.now in
    let q = ap is_const (sym c.var_decl_kind-kind.ensures) ∙ sym c.is_const.ensures ∙ c.if-is_const.false in
    acts.moves-by (parts.some-other c.args.name.form c.args.name.ident (rest w) (tree_from (tree w) c.args.e) (type_of c.var_decl_kind-kind.result) c.var_decl_kind-kind.ensures q (sym c.is_cheap.ensures ∙ c.if-is_cheap.false)) c.over_other.ensures.did

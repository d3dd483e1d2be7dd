-- A constant without a value is not declared. Assumes nothing.
use Rattle.std.proofs.Common.{ap, sym, ◌∙◌}
use Rattle.def_pass.specs.Scope.{is_const}
use Rattle.words_scopes.specs.Kinds.{type_of}
use Rattle.words_state.specs.State.{rest}
use Rattle.walk_declarator.proofs.Acts as acts
use Rattle.walk_declarator.proofs.Parts as parts
use Rattle.walk_declarator.proofs.over_none.Goals as goal

pub returns-then-is_const-clause-did : goal.returns-then-is_const-clause-did
returns-then-is_const-clause-did c = acts.moves-by (parts.none-const c.args.name.form c.args.name.ident (rest c.args.w.now) (ap is_const (sym c.var_decl_kind-kind.ensures) ∙ sym c.is_const.ensures ∙ c.if-is_const.true)) (acts.moves-self c.requires tt)

pub returns-clause-did : goal.returns-clause-did
returns-clause-did c = acts.moves-by (parts.none-declared c.args.name.form c.args.name.ident (rest c.args.w.now) (type_of c.var_decl_kind-kind.result) c.var_decl_kind-kind.ensures (ap is_const (sym c.var_decl_kind-kind.ensures) ∙ sym c.is_const.ensures ∙ c.if-is_const.false)) c.declare_m.ensures.did

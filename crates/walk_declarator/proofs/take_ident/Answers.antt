-- Declared again, or nothing. Assumes nothing.
use Rattle.std.proofs.Common.{sym, ◌∙◌}
use Rattle.words.specs.Layout.{tree}
use Rattle.words_scopes.specs.Kinds.{type_of}
use Rattle.words_nodes.specs.Nodes.{tree_from}
use Rattle.words_state.specs.State.{rest}
use Rattle.scope.proofs.Given as given
use Rattle.walk_declarator.proofs.Acts as acts
use Rattle.walk_declarator.proofs.Parts as parts
use Rattle.walk_declarator.proofs.take_ident.Goals as goal

pub returns-then-is_ident-clause-did : goal.returns-then-is_ident-clause-did
returns-then-is_ident-clause-did c = acts.moves-by (parts.ident-yes c.args.d.name.form c.args.d.name.ident (type_of c.args.d.kind) (tree_from (tree c.args.w.now) c.args.e) (rest c.args.w.now) (sym c.is_ident.ensures ∙ c.if-is_ident.true)) (rw (sym (given.recorded-in c.args.w.now c.args.e c.requires.1)) at c.declare_m.ensures.did)

pub returns-clause-did : goal.returns-clause-did
returns-clause-did c = acts.moves-by (parts.ident-no c.args.d.name.form c.args.d.name.ident (type_of c.args.d.kind) (tree_from (tree c.args.w.now) c.args.e) (rest c.args.w.now) (sym c.is_ident.ensures ∙ c.if-is_ident.false)) (acts.moves-self c.requires.0 tt)

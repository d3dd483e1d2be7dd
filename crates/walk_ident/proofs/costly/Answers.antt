-- By the binding, and by the kind of its value. Assumes nothing.
use Rattle.std.proofs.Common.{Some, None, ◌∙◌}
use mathlib.Core.Option.{Option}
use mathlib.Core.Path.{subst}
use Rattle.words_scopes.specs.State.{stack}
use Rattle.def_pass.specs.Scope.{VarInfo, value_o}
use Rattle.scope_find.specs.Look.{IsKindOfValue}
use Rattle.scope.proofs.Numbers as numbers
use Rattle.walk_ident.proofs.Idents as idents
use Rattle.walk_ident.proofs.costly.Goals as goal

pub returns-in-Some-value_kind : goal.returns-in-Some-value_kind
returns-in-Some-value_kind c =
    let e = numbers.number-some (stack c.args.w.now) c.in-Some.b c.in-Some.ensures.1 in
    let q = subst (λ (o : Option VarInfo). IsKindOfValue (value_o o) (Some c.in-Some-value_kind.kind)) e c.in-Some-value_kind.ensures in
    idents.costly-kind c.in-Some-value_kind.kind c.is_cheap.result (c.in-Some.ensures.0 ∙ e) q c.is_cheap.ensures

pub returns-in-None : goal.returns-in-None
returns-in-None c =
    let e = numbers.number-some (stack c.args.w.now) c.in-Some.b c.in-Some.ensures.1 in
    idents.costly-none (c.in-Some.ensures.0 ∙ e) (subst (λ (o : Option VarInfo). IsKindOfValue (value_o o) None) e c.in-None.ensures)

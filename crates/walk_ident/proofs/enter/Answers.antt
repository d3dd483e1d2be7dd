use mathlib.Core.Path.{subst}
use Rattle.std.proofs.Common.{ℕ, ◌∷◌, ap, sym, ◌∙◌, Ok, leb, length}
use Rattle.refusal.specs.Number.{refused}
use Rattle.refusal.proofs.Rows.{exit}
use Rattle.def_tree.specs.Combine.{stop, on_rest}
use Rattle.def_pass.specs.Scope.{v_var, new_scope}
use Rattle.def_pass.specs.Walk.{opening, set_var_decl_kind}
use Rattle.words.specs.Layout.{tree}
use Rattle.words_scopes.specs.Kinds.{kind_of}
use Rattle.words_scopes.specs.State.{stack}
use Rattle.words_scopes.specs.declared.kinds.ScopeKind.{ScopeKind}
use Rattle.words_state.specs.State.{abs, Act}
use Rattle.words_state.proofs.Fields.{becomes-turns, ok-self}
use Rattle.scope_values.specs.Steps.{Limited}
use Rattle.walk_ident.proofs.Laws as laws
use Rattle.walk_ident.proofs.Scopes as scopes
use Rattle.walk_ident.proofs.enter.Goals as goal

pub returns-in_err-open_scope-clause-did : goal.returns-in_err-open_scope-clause-did
returns-in_err-open_scope-clause-did c =
    let w = c.args.w.now in
    let k = kind_of c.args.kind in
    let g = c.in_err-open_scope.ensures in
    exit (λ r. Act w c.open_scope.new.w (refused r) (on_rest (opening k) (abs w))) c.from_residual.result c.from_residual.ensures.1
    (record { ok = rw g.2 (ok-self c.requires); nodes = ap tree g.2; acts = laws.acts-stop _ _ (scopes.enter-full w k g.1 ∙ ap (λ (n : ℕ). stop n) (sym g.0)) })

pub returns-clause-did : goal.returns-clause-did
returns-clause-did c =
    let w = c.args.w.now in
    let k = kind_of c.args.kind in
    let g = subst (λ (s : ScopeKind). Limited 8 (leb 32 (length (stack w))) w c.open_scope.new.w (new_scope (kind_of s) ∷ stack w) (Ok tt)) c.new.ensures c.in_ok-open_scope.ensures in
    let t = laws.then_turns (set_var_decl_kind v_var) (becomes-turns c.requires c.open_scope.auto.w g.0) c.set_var_decl_kind.ensures in
    record { ok = t.ok; nodes = t.nodes; acts = laws.acts-done _ (scopes.enter-open w k g.1) (laws.turns-abs t) }

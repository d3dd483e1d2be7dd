use Rattle.std.proofs.Common.{suc, get_or, sym, refl, ◌∙◌}
use mathlib.Core.Option.{none}
use Rattle.def_tree.specs.Combine.{tree_at}
use Rattle.words_scopes.specs.State.{stack}
use Rattle.words_scopes.proofs.Split.{no_bind}
use Rattle.words_state.specs.State.{abs}
use Rattle.scope_values.proofs.Listed.{grown-kept}
use Rattle.scope.specs.Handles.{numbered, bindings_of}
use Rattle.scope.proofs.Numbers.{number-some}
use Rattle.walk_write.proofs.Writing.{num-here}
use Rattle.walk_write.proofs.AssignLast.{store-none, store-held, store_kept}
use Rattle.walk_write.proofs.assign.store_value.Goals as goal

pub returns-in_default-clause-did : goal.returns-in_default-clause-did
returns-in_default-clause-did c =
    let w = c.args.w.now in
    let q = num-here w c.args.i c.requires.1 ∙ sym c.ident_at-x.ensures in
    store-none c.requires.0 (tree_at (abs w) c.args.i) (tree_at (abs w) c.args.j) c.ident_at-x.result q none c.in_default.ensures.0 refl

pub returns-then-var_inline_prevented-clause-did : goal.returns-then-var_inline_prevented-clause-did
returns-then-var_inline_prevented-clause-did c =
    let w = c.args.w.now in
    let q = num-here w c.args.i c.requires.1 ∙ sym c.ident_at-x.ensures in
    store-held c.requires.0 (tree_at (abs w) c.args.i) (tree_at (abs w) c.args.j) c.ident_at-x.result q (numbered (stack w) (suc c.in-Some.b)) c.in-Some.ensures.0 (sym c.var_inline_prevented.ensures ∙ c.if-var_inline_prevented.true)

pub returns-clause-did : goal.returns-clause-did
returns-clause-did c =
    let w = c.args.w.now in
    let b = c.in-Some.b in
    let q = num-here w c.args.i c.requires.1 ∙ sym c.ident_at-x.ensures in
    let e = number-some (stack w) b c.in-Some.ensures.1 in
    store_kept c.requires.0 (tree_at (abs w) c.args.i) (tree_at (abs w) c.args.j) c.ident_at-x.result q (numbered (stack w) (suc b)) c.in-Some.ensures.0 c.record_value.result (get_or (bindings_of (stack w)) b no_bind) e (sym c.var_inline_prevented.ensures ∙ c.if-var_inline_prevented.false) c.kept_value-v.ensures c.record_value.ensures

pub returns-clause-kept : goal.returns-clause-kept
returns-clause-kept c = grown-kept c.args.w.now c.record_value.new.w _ c.record_value.result c.record_value.ensures

use Rattle.std.proofs.Common.{sym, ◌∙◌, suc, refl, arith}
use mathlib.Core.Option.{none}
use Rattle.def_pass.specs.Scope.{value_o}
use Rattle.words_scopes.specs.State.{stack}
use Rattle.scope.specs.Handles.{numbered, value_tree}
use Rattle.scope.proofs.Numbers as numbers
use Rattle.walk_ident.proofs.Fates as fates
use Rattle.walk_ident.proofs.fate.Goals as goal

pub returns-in_default : goal.returns-in_default
returns-in_default c = fates.fate-at c.args.w.now c.args.i c.ident_at-x.result c.requires.1 c.ident_at-x.ensures none c.in_default.ensures.0

pub returns-then-var_inline_prevented : goal.returns-then-var_inline_prevented
returns-then-var_inline_prevented c =
    let o = numbered (stack c.args.w.now) (suc c.in-Some.b) in
    fates.fate-at c.args.w.now c.args.i c.ident_at-x.result c.requires.1 c.ident_at-x.ensures o c.in-Some.ensures.0 ∙ fates.fate-prevented o (sym c.var_inline_prevented.ensures ∙ c.if-var_inline_prevented.true)

pub returns-then-value_len-gt0 : goal.returns-then-value_len-gt0
returns-then-value_len-gt0 c =
    let o = numbered (stack c.args.w.now) (suc c.in-Some.b) in
    let v = numbers.value_tree-some (value_o o) (omega (arith, c.value_len.ensures.0, c.if-value_len-gt0.true)) in
    (fates.fate-at c.args.w.now c.args.i c.ident_at-x.result c.requires.1 c.ident_at-x.ensures o c.in-Some.ensures.0 ∙ fates.fate-value o (sym c.var_inline_prevented.ensures ∙ c.if-var_inline_prevented.false) (value_tree (value_o o)) v, v)

pub returns-then-is_undefined : goal.returns-then-is_undefined
returns-then-is_undefined c =
    let o = numbered (stack c.args.w.now) (suc c.in-Some.b) in
    fates.fate-at c.args.w.now c.args.i c.ident_at-x.result c.requires.1 c.ident_at-x.ensures o c.in-Some.ensures.0 ∙ fates.fate-none o (sym c.var_inline_prevented.ensures ∙ c.if-var_inline_prevented.false) (sym c.value_len.ensures.0 ∙ omega (arith, c.if-value_len-gt0.false)) ∙ rw (sym c.is_undefined.ensures ∙ c.if-is_undefined.true) refl

pub returns : goal.returns
returns c =
    let o = numbered (stack c.args.w.now) (suc c.in-Some.b) in
    fates.fate-at c.args.w.now c.args.i c.ident_at-x.result c.requires.1 c.ident_at-x.ensures o c.in-Some.ensures.0 ∙ fates.fate-none o (sym c.var_inline_prevented.ensures ∙ c.if-var_inline_prevented.false) (sym c.value_len.ensures.0 ∙ omega (arith, c.if-value_len-gt0.false)) ∙ rw (sym c.is_undefined.ensures ∙ c.if-is_undefined.false) refl

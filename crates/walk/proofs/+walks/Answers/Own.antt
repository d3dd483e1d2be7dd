-- The goals of own. Assumes nothing.
use Prim.Native.Nat.{ℕ}
use mathlib.Core.Path.{refl, ap, ◌∙◌}
use mathlib.Core.Logic.{inl, inr}
use native.Mathlib.Omega.{arith}
use Rattle.def_file.specs.Named.{kind_of}
use Rattle.words.specs.Layout.{node_of}
use Rattle.def_pass.specs.Walk.{handler_of, h_plain, h_script, h_block, h_decl, h_declr, h_fun, h_if, h_while, h_for, h_for_in, h_try, h_catch, h_case, h_pat, h_unary, h_update, h_assign, h_call, h_new, h_fun_expr, h_arrow}
use Rattle.laws_flat.specs.WalkF.{walks_f, handle_f}
use Rattle.walk_laws.proofs.Heres as heres
use Rattle.walk_laws.proofs.Ways as ways
use Rattle.walk.proofs.+walks.Goals as goal

pub own-kind_at-requires : goal.own-kind_at-requires
own-kind_at-requires t c = heres.at-node c.requires

pub own-body-requires : goal.own-body-requires
own-body-requires t c = (omega (arith, c.decreases), c.requires)

pub own-block-requires : goal.own-block-requires
own-block-requires t c = (omega (arith, c.decreases), c.requires)

pub own-decl-requires : goal.own-decl-requires
own-decl-requires t c = (omega (arith, c.decreases), c.requires)

pub own-declr-requires : goal.own-declr-requires
own-declr-requires t c = (omega (arith, c.decreases), c.requires)

pub own-fdecl-requires : goal.own-fdecl-requires
own-fdecl-requires t c = (omega (arith, c.decreases), c.requires)

pub own-ifs-requires : goal.own-ifs-requires
own-ifs-requires t c = (omega (arith, c.decreases), c.requires)

pub own-fors-requires : goal.own-fors-requires
own-fors-requires t c = (omega (arith, c.decreases), c.requires)

pub own-tries-requires : goal.own-tries-requires
own-tries-requires t c = (omega (arith, c.decreases), c.requires)

pub own-catch-requires : goal.own-catch-requires
own-catch-requires t c = (omega (arith, c.decreases), c.requires)

pub own-case-requires : goal.own-case-requires
own-case-requires t c = (omega (arith, c.decreases), c.requires)

pub own-unary-requires : goal.own-unary-requires
own-unary-requires t c = (omega (arith, c.decreases), c.requires)

pub own-assign-requires : goal.own-assign-requires
own-assign-requires t c = (omega (arith, c.decreases), c.requires)

pub own-call-requires : goal.own-call-requires
own-call-requires t c = (omega (arith, c.decreases), c.requires)

pub own-call-requires-in-New : goal.own-call-requires-in-New
own-call-requires-in-New t c = (omega (arith, c.decreases), c.requires)

pub own-fexpr-requires : goal.own-fexpr-requires
own-fexpr-requires t c = (omega (arith, c.decreases), c.requires)

pub own-arrow-requires : goal.own-arrow-requires
own-arrow-requires t c = (omega (arith, c.decreases), c.requires)

pub own-whiles-requires : goal.own-whiles-requires
own-whiles-requires t c = (omega (arith, c.decreases), c.requires)

pub own-forin-requires : goal.own-forin-requires
own-forin-requires t c = (omega (arith, c.decreases), c.requires)

pub own-kids-requires : goal.own-kids-requires
own-kids-requires t c = (omega (arith, c.decreases), c.requires)

pub own-returns-in-Script : goal.own-returns-in-Script
unfolding handle_f
own-returns-in-Script t c = ways.own-by (walks_f c.args.below) h_script c.requires refl (ap (λ (m : ℕ). handler_of (kind_of m)) (rw c.in-Script.is at c.kind_at.ensures.1)) c.body.ensures

pub own-returns-in-Block : goal.own-returns-in-Block
unfolding handle_f
own-returns-in-Block t c = ways.own-by (walks_f c.args.below) h_block c.requires refl (ap (λ (m : ℕ). handler_of (kind_of m)) (rw c.in-Block.is at c.kind_at.ensures.1)) c.block.ensures

pub own-returns-in-VarDecl : goal.own-returns-in-VarDecl
unfolding handle_f
own-returns-in-VarDecl t c = ways.own-by (walks_f c.args.below) h_decl c.requires refl (ap (λ (m : ℕ). handler_of (kind_of m)) (rw c.in-VarDecl.is at c.kind_at.ensures.1)) c.decl.ensures

pub own-returns-in-VarDeclarator : goal.own-returns-in-VarDeclarator
unfolding handle_f
own-returns-in-VarDeclarator t c = ways.own-by (walks_f c.args.below) h_declr c.requires refl (ap (λ (m : ℕ). handler_of (kind_of m)) (rw c.in-VarDeclarator.is at c.kind_at.ensures.1)) c.declr.ensures

pub own-returns-in-FnDecl : goal.own-returns-in-FnDecl
unfolding handle_f
own-returns-in-FnDecl t c = ways.own-by (walks_f c.args.below) h_fun c.requires refl (ap (λ (m : ℕ). handler_of (kind_of m)) (rw c.in-FnDecl.is at c.kind_at.ensures.1)) c.fdecl.ensures

pub own-returns-in-If : goal.own-returns-in-If
unfolding handle_f
own-returns-in-If t c = ways.own-by (walks_f c.args.below) h_if c.requires refl (ap (λ (m : ℕ). handler_of (kind_of m)) (rw c.in-If.is at c.kind_at.ensures.1)) c.ifs.ensures

pub own-returns-in-For : goal.own-returns-in-For
unfolding handle_f
own-returns-in-For t c = ways.own-by (walks_f c.args.below) h_for c.requires refl (ap (λ (m : ℕ). handler_of (kind_of m)) (rw c.in-For.is at c.kind_at.ensures.1)) c.fors.ensures

pub own-returns-in-Try : goal.own-returns-in-Try
unfolding handle_f
own-returns-in-Try t c = ways.own-by (walks_f c.args.below) h_try c.requires refl (ap (λ (m : ℕ). handler_of (kind_of m)) (rw c.in-Try.is at c.kind_at.ensures.1)) c.tries.ensures

pub own-returns-in-CatchClause : goal.own-returns-in-CatchClause
unfolding handle_f
own-returns-in-CatchClause t c = ways.own-by (walks_f c.args.below) h_catch c.requires refl (ap (λ (m : ℕ). handler_of (kind_of m)) (rw c.in-CatchClause.is at c.kind_at.ensures.1)) c.catch.ensures

pub own-returns-in-SwitchCase : goal.own-returns-in-SwitchCase
unfolding handle_f
own-returns-in-SwitchCase t c = ways.own-by (walks_f c.args.below) h_case c.requires refl (ap (λ (m : ℕ). handler_of (kind_of m)) (rw c.in-SwitchCase.is at c.kind_at.ensures.1)) c.case.ensures

pub own-returns-in-BindingIdent : goal.own-returns-in-BindingIdent
unfolding handle_f
own-returns-in-BindingIdent t c = ways.own-by (walks_f c.args.below) h_pat c.requires refl (ap (λ (m : ℕ). handler_of (kind_of m)) (rw c.in-BindingIdent.is at c.kind_at.ensures.1)) c.pats.ensures

pub own-returns-in-Unary : goal.own-returns-in-Unary
unfolding handle_f
own-returns-in-Unary t c = ways.own-by (walks_f c.args.below) h_unary c.requires refl (ap (λ (m : ℕ). handler_of (kind_of m)) (rw c.in-Unary.is at c.kind_at.ensures.1)) c.unary.ensures

pub own-returns-in-Update : goal.own-returns-in-Update
unfolding handle_f
own-returns-in-Update t c = ways.own-by (walks_f c.args.below) h_update c.requires refl (ap (λ (m : ℕ). handler_of (kind_of m)) (rw c.in-Update.is at c.kind_at.ensures.1)) c.update.ensures

pub own-returns-in-Assign : goal.own-returns-in-Assign
unfolding handle_f
own-returns-in-Assign t c = ways.own-by (walks_f c.args.below) h_assign c.requires refl (ap (λ (m : ℕ). handler_of (kind_of m)) (rw c.in-Assign.is at c.kind_at.ensures.1)) c.assign.ensures

pub own-returns-in-Call : goal.own-returns-in-Call
unfolding handle_f
own-returns-in-Call t c = ways.own-by (walks_f c.args.below) h_call c.requires refl (ap (λ (m : ℕ). handler_of (kind_of m)) (rw c.in-Call.is at c.kind_at.ensures.1)) c.call.ensures

pub own-returns-in-New : goal.own-returns-in-New
unfolding handle_f
own-returns-in-New t c = ways.own-by (walks_f c.args.below) h_new c.requires refl (ap (λ (m : ℕ). handler_of (kind_of m)) (rw c.in-New.is at c.kind_at.ensures.1)) c.call-in-New.ensures

pub own-returns-in-FnExpr : goal.own-returns-in-FnExpr
unfolding handle_f
own-returns-in-FnExpr t c = ways.own-by (walks_f c.args.below) h_fun_expr c.requires refl (ap (λ (m : ℕ). handler_of (kind_of m)) (rw c.in-FnExpr.is at c.kind_at.ensures.1)) c.fexpr.ensures

pub own-returns-in-Arrow : goal.own-returns-in-Arrow
unfolding handle_f
own-returns-in-Arrow t c = ways.own-by (walks_f c.args.below) h_arrow c.requires refl (ap (λ (m : ℕ). handler_of (kind_of m)) (rw c.in-Arrow.is at c.kind_at.ensures.1)) c.arrow.ensures

pub own-returns-in-While : goal.own-returns-in-While
unfolding handle_f
own-returns-in-While t c = ways.own-by (walks_f c.args.below) h_while c.requires refl (elim c.in-While.is [ inl e ↦ ap (λ (m : ℕ). handler_of (kind_of m)) (rw e at c.kind_at.ensures.1) | inr e ↦ ap (λ (m : ℕ). handler_of (kind_of m)) (rw e at c.kind_at.ensures.1) ]) c.whiles.ensures

pub own-returns-in-ForIn : goal.own-returns-in-ForIn
unfolding handle_f
own-returns-in-ForIn t c = ways.own-by (walks_f c.args.below) h_for_in c.requires refl (elim c.in-ForIn.is [ inl e ↦ ap (λ (m : ℕ). handler_of (kind_of m)) (rw e at c.kind_at.ensures.1) | inr e ↦ ap (λ (m : ℕ). handler_of (kind_of m)) (rw e at c.kind_at.ensures.1) ]) c.forin.ensures

pub own-returns-in_default : goal.own-returns-in_default
unfolding handle_f
own-returns-in_default t c = ways.own-by (walks_f c.args.below) h_plain c.requires refl (ways.kind-plain (node_of c.args.w.now c.args.node).kind (inl refl, (inr (λ e. c.in_default.not-Script (c.kind_at.ensures.0 ∙ ap kind_of e)), (inr (λ e. c.in_default.not-Block (c.kind_at.ensures.0 ∙ ap kind_of e)), (inl refl, (inl refl, (inr (λ e. c.in_default.not-VarDecl (c.kind_at.ensures.0 ∙ ap kind_of e)), (inr (λ e. c.in_default.not-VarDeclarator (c.kind_at.ensures.0 ∙ ap kind_of e)), (inr (λ e. c.in_default.not-FnDecl (c.kind_at.ensures.0 ∙ ap kind_of e)), (inl refl, (inr (λ e. c.in_default.not-If (c.kind_at.ensures.0 ∙ ap kind_of e)), (inr (λ e. c.in_default.not-While (c.kind_at.ensures.0 ∙ ap kind_of e)), (inr (λ e. c.in_default.not-DoWhile (c.kind_at.ensures.0 ∙ ap kind_of e)), (inr (λ e. c.in_default.not-For (c.kind_at.ensures.0 ∙ ap kind_of e)), (inr (λ e. c.in_default.not-ForIn (c.kind_at.ensures.0 ∙ ap kind_of e)), (inr (λ e. c.in_default.not-ForOf (c.kind_at.ensures.0 ∙ ap kind_of e)), (inl refl, (inr (λ e. c.in_default.not-Try (c.kind_at.ensures.0 ∙ ap kind_of e)), (inr (λ e. c.in_default.not-CatchClause (c.kind_at.ensures.0 ∙ ap kind_of e)), (inl refl, (inr (λ e. c.in_default.not-SwitchCase (c.kind_at.ensures.0 ∙ ap kind_of e)), (inr (λ e. c.in_default.not-BindingIdent (c.kind_at.ensures.0 ∙ ap kind_of e)), (inl refl, (inl refl, (inl refl, (inl refl, (inl refl, (inl refl, (inl refl, (inl refl, (inl refl, (inr (λ e. c.in_default.not-Unary (c.kind_at.ensures.0 ∙ ap kind_of e)), (inr (λ e. c.in_default.not-Update (c.kind_at.ensures.0 ∙ ap kind_of e)), (inl refl, (inr (λ e. c.in_default.not-Assign (c.kind_at.ensures.0 ∙ ap kind_of e)), (inl refl, (inr (λ e. c.in_default.not-Call (c.kind_at.ensures.0 ∙ ap kind_of e)), (inr (λ e. c.in_default.not-New (c.kind_at.ensures.0 ∙ ap kind_of e)), (inl refl, (inl refl, (inr (λ e. c.in_default.not-FnExpr (c.kind_at.ensures.0 ∙ ap kind_of e)), (inr (λ e. c.in_default.not-Arrow (c.kind_at.ensures.0 ∙ ap kind_of e)), (inl refl, (inl refl, (inl refl, (inl refl, (inl refl, (inl refl, (inl refl, (inl refl, tt)))))))))))))))))))))))))))))))))))))))))))))))))) c.kids.ensures

-- The goals of ident. Assumes nothing.
use mathlib.Core.Option.{some}
use mathlib.Core.Path.{sym, ◌∙◌}
use native.Mathlib.Omega.{arith}
use Rattle.words_state.specs.State.{abs}
use Rattle.laws_flat.specs.WalkF.{walks_f}
use Rattle.walk_laws.proofs.Heres as heres
use Rattle.walk_laws.proofs.Ways as ways
use Rattle.walk_laws.proofs.Idents as idents
use Rattle.scope.specs.Handles.{value_tree}
use Rattle.walk_ident.specs.Steps.{value_by, constant_at}
use Rattle.walk.proofs.+walks.Goals as goal

pub ident-constant-requires : goal.ident-constant-requires
ident-constant-requires t c = (c.requires.0.planted, heres.here-node c.requires.0, c.requires.1)

pub ident-inline_constant-requires : goal.ident-inline_constant-requires
ident-inline_constant-requires t c = (c.requires.0.planted, heres.here-node c.requires.0, c.requires.1, c.in-Some.ensures.0, c.in-Some.ensures.1)

pub ident-returns-in_err-inline_constant : goal.ident-returns-in_err-inline_constant
ident-returns-in_err-inline_constant t c = ways.did-exit c.from_residual.result c.from_residual.ensures.1 (ways.ident-by (walks_f c.args.below) c.args.depth c.args.node (some (value_tree (constant_at (abs c.args.w.now) c.args.node))) (idents.const-some c.args.w.now c.args.node c.in-Some.ensures.0) (ways.const-stop (walks_f c.args.below) c.args.depth c.args.node (value_tree (constant_at (abs c.args.w.now) c.args.node)) c.in_err-inline_constant.ensures.did))

pub ident-full-requires : goal.ident-full-requires
ident-full-requires t c = (omega (arith, c.decreases), idents.here-lower (idents.here-const c.args.depth (value_tree (constant_at (abs c.args.w.now) c.args.node)) c.requires.0 c.in_ok-inline_constant.ensures.did))

pub ident-returns-in-Some : goal.ident-returns-in-Some
ident-returns-in-Some t c = ways.ident-by (walks_f c.args.below) c.args.depth c.args.node (some (value_tree (constant_at (abs c.args.w.now) c.args.node))) (idents.const-some c.args.w.now c.args.node c.in-Some.ensures.0) (ways.const-then (walks_f c.args.below) c.args.depth c.args.node (value_tree (constant_at (abs c.args.w.now) c.args.node)) c.in_ok-inline_constant.ensures.did c.full.ensures)

pub ident-ident_analysis-requires : goal.ident-ident_analysis-requires
ident-ident_analysis-requires t c = (c.requires.0.planted, heres.here-node c.requires.0, c.requires.1)

pub ident-skip-requires : goal.ident-skip-requires
ident-skip-requires t c = heres.at-skip (idents.here-analysis c.requires.0 c.ident_analysis.ensures)

pub ident-returns-then-not-inlining : goal.ident-returns-then-not-inlining
ident-returns-then-not-inlining t c = idents.no-const-analysis (walks_f c.args.below) c.args.depth c.args.node (idents.const-none c.args.w.now c.args.node c.in_default.ensures.0) (sym c.inlining.ensures ∙ c.if-not-inlining.true) (ways.analysis-then c.args.node c.ident_analysis.ensures (ways.did-skip c.args.node c.ident_analysis.ensures.ok.planted c.skip.ensures.0))

pub ident-fate-requires : goal.ident-fate-requires
ident-fate-requires t c = (c.requires.0.planted, heres.here-node c.requires.0, c.requires.1)

pub ident-skip-requires-in-Nothing : goal.ident-skip-requires-in-Nothing
ident-skip-requires-in-Nothing t c = heres.at-skip c.requires.0

pub ident-inline_undefined-requires : goal.ident-inline_undefined-requires
ident-inline_undefined-requires t c = heres.at-skip c.requires.0

pub ident-inline_value-requires : goal.ident-inline_value-requires
ident-inline_value-requires t c = (c.requires.0.planted, heres.here-node c.requires.0, c.requires.1, c.in-Value.ensures.1)

pub ident-returns-in_err-inline_value-in-Value : goal.ident-returns-in_err-inline_value-in-Value
ident-returns-in_err-inline_value-in-Value t c = ways.did-exit c.from_residual-in_err-inline_value-in-Value.result c.from_residual-in_err-inline_value-in-Value.ensures.1 (idents.no-const-inlining (walks_f c.args.below) c.args.depth c.args.node (idents.const-none c.args.w.now c.args.node c.in_default.ensures.0) (sym c.inlining.ensures ∙ c.if-not-inlining.false) (idents.found-value (walks_f c.args.below) c.args.depth c.args.node (value_by c.args.w.now c.in-Value.b) c.in-Value.ensures.0 (λ b. ways.value-stop (walks_f c.args.below) c.args.depth c.args.node b (value_by c.args.w.now c.in-Value.b) c.in_err-inline_value-in-Value.ensures.did)))

pub ident-logic-requires : goal.ident-logic-requires
ident-logic-requires t c = (omega (arith, c.decreases), idents.here-value c.args.depth (value_by c.args.w.now c.in-Value.b) c.requires.0 c.in_ok-inline_value-in-Value.ensures.did)

pub ident-returns-in-Nothing : goal.ident-returns-in-Nothing
ident-returns-in-Nothing t c = idents.no-const-inlining (walks_f c.args.below) c.args.depth c.args.node (idents.const-none c.args.w.now c.args.node c.in_default.ensures.0) (sym c.inlining.ensures ∙ c.if-not-inlining.false) (idents.found_nothing (walks_f c.args.below) c.args.depth c.args.node c.in-Nothing.ensures (ways.did-skip c.args.node c.requires.0.planted c.skip-in-Nothing.ensures.0))

pub ident-returns-in-Void : goal.ident-returns-in-Void
ident-returns-in-Void t c = idents.no-const-inlining (walks_f c.args.below) c.args.depth c.args.node (idents.const-none c.args.w.now c.args.node c.in_default.ensures.0) (sym c.inlining.ensures ∙ c.if-not-inlining.false) (idents.found-void (walks_f c.args.below) c.args.depth c.args.node c.in-Void.ensures c.inline_undefined.ensures.did)

pub ident-returns-in_ok-inline_value-in-Value : goal.ident-returns-in_ok-inline_value-in-Value
ident-returns-in_ok-inline_value-in-Value t c = idents.no-const-inlining (walks_f c.args.below) c.args.depth c.args.node (idents.const-none c.args.w.now c.args.node c.in_default.ensures.0) (sym c.inlining.ensures ∙ c.if-not-inlining.false) (idents.found-value (walks_f c.args.below) c.args.depth c.args.node (value_by c.args.w.now c.in-Value.b) c.in-Value.ensures.0 (λ b. ways.value-then (walks_f c.args.below) c.args.depth c.args.node b (value_by c.args.w.now c.in-Value.b) c.in_ok-inline_value-in-Value.ensures.did c.logic.ensures))

-- A search for `this` that passes over functions. Assumes nothing.
use mathlib.Core.Path.{◌≡◌, ap, ◌∙◌}
use mathlib.Core.Logic.{◌⊎◌, inl, inr}
use native.Mathlib.Omega.{arith}
use Rattle.def_tree.specs.Tree.{Core}
use Rattle.def_file.specs.Named.{kind_of}
use Rattle.words.specs.Layout.{tree, node_of}
use Rattle.words.proofs.Nodes.{tree-length}
use Rattle.words_nodes.proofs.Loops.{sought-none, sought-all, sought-found, sought-past, sought-in}
use Rattle.words_nodes.proofs.Words.{tree-whole, in_tree, few-open, node-here}
use Rattle.words_nodes.proofs.has_this.Goals as goal

pub loop-more-init : goal.loop-more-init
loop-more-init c = sought-none (tree c.args.w.now) c.args.i (rw tree-length c.requires.1)

pub kind_at-requires : goal.kind_at-requires
kind_at-requires c = (c.requires.0.good.long, omega (arith, in_tree c.requires.0 c.loop-more.invariant.still (omega arith), c.requires.0.good.nodes))

pub returns-in-This : goal.returns-in-This
returns-in-This c = sought-found (tree-whole c.requires.0) c.loop-more.invariant (omega arith) (ap (λ (x : Core). x.kind) (node-here c.requires.0 c.loop-more.invariant.still (omega arith))) (rw c.in-This.is at c.kind_at.ensures.1)

pub skip-at-requires : goal.skip-at-requires
skip-at-requires c = (c.requires.0, in_tree c.requires.0 c.loop-more.invariant.still (omega arith))

pub loop-more-smaller-in-FnExpr : goal.loop-more-smaller-in-FnExpr
loop-more-smaller-in-FnExpr c = omega (arith, in_tree c.requires.0 c.loop-more.invariant.still (omega arith), c.skip-at.ensures.1)

pub loop-more-preserved-in-FnExpr : goal.loop-more-preserved-in-FnExpr
loop-more-preserved-in-FnExpr c =
    let fn : ((node_of c.args.w.now c.loop-more.at).kind ≡ 39) ⊎ ((node_of c.args.w.now c.loop-more.at).kind ≡ 7) = elim c.in-FnExpr.is [ inl a ↦ inl (rw a at c.kind_at.ensures.1) | inr b ↦ inr (rw b at c.kind_at.ensures.1) ] in
    sought-past (tree-whole c.requires.0) c.loop-more.invariant (omega arith) (ap (λ (x : Core). x.kind) (node-here c.requires.0 c.loop-more.invariant.still (omega arith))) (elim fn [ inl a ↦ λ e. omega (arith, a, e) | inr b ↦ λ e. omega (arith, b, e) ]) fn c.skip-at.ensures.0

pub arity_at-requires : goal.arity_at-requires
arity_at-requires c = (c.requires.0.good.long, omega (arith, in_tree c.requires.0 c.loop-more.invariant.still (omega arith), c.requires.0.good.nodes))

pub overflow_add-more : goal.overflow_add-more
overflow_add-more c = omega (arith, few-open c.requires.0 c.loop-more.invariant.still (omega arith))

pub overflow_add-at : goal.overflow_add-at
overflow_add-at c = omega (arith, in_tree c.requires.0 c.loop-more.invariant.still (omega arith), c.requires.0.good.nodes)

pub loop-more-smaller : goal.loop-more-smaller
loop-more-smaller c = omega (arith, in_tree c.requires.0 c.loop-more.invariant.still (omega arith))

pub loop-more-preserved : goal.loop-more-preserved
loop-more-preserved c = sought-in (tree-whole c.requires.0) c.loop-more.invariant (omega arith) (ap (λ (x : Core). x.kind) (node-here c.requires.0 c.loop-more.invariant.still (omega arith))) (λ e. c.in_default.not-This (c.kind_at.ensures.0 ∙ ap kind_of e)) (λ e. c.in_default.not-FnExpr (c.kind_at.ensures.0 ∙ ap kind_of e)) (λ e. c.in_default.not-FnDecl (c.kind_at.ensures.0 ∙ ap kind_of e)) (c.arity_at.ensures ∙ ap (λ (x : Core). x.arity) (node-here c.requires.0 c.loop-more.invariant.still (omega arith)))

pub returns : goal.returns
returns c = sought-all (omega arith) c.loop-more.invariant

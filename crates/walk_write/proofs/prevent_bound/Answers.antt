-- The invariant: what is left to prevent are the names that the trees still open bind. Assumes nothing.
use mathlib.Core.Path.{sym, ap, ◌∙◌}
use mathlib.Core.Logic.{inl}
use native.Mathlib.Omega.{arith}
use Rattle.def_file.specs.Named.{kind_of}
use Rattle.words_nodes.proofs.Words.{in_tree, few-open}
use Rattle.walk_write.proofs.Bounds.{preventing-none, preventing-all, preventing-in, preventing-past, preventing-name, name-needs, count_kept}
use Rattle.walk_write.proofs.prevent_bound.Goals as goal
use Rattle.walk_write.proofs.prevent_bound.Goals.{in-BindingIdent, in_default}

pub loop-more-init : goal.loop-more-init
loop-more-init c = preventing-none c.args.i c.requires.0 c.requires.1

pub kind_at-kind-requires : goal.kind_at-kind-requires
kind_at-kind-requires c = (c.loop-more.invariant.ok.planted.good.long, omega (arith, in_tree c.loop-more.invariant.ok.planted c.loop-more.invariant.still c.loop-more-test.true, c.loop-more.invariant.ok.planted.good.nodes))

pub arity_at-requires : goal.arity_at-requires
arity_at-requires c = (c.loop-more.invariant.ok.planted.good.long, omega (arith, in_tree c.loop-more.invariant.ok.planted c.loop-more.invariant.still c.loop-more-test.true, c.loop-more.invariant.ok.planted.good.nodes))

pub overflow_add-more : goal.overflow_add-more
overflow_add-more c = omega (arith, few-open c.loop-more.invariant.ok.planted c.loop-more.invariant.still c.loop-more-test.true)

pub overflow_add-at : goal.overflow_add-at
overflow_add-at c = omega (arith, in_tree c.loop-more.invariant.ok.planted c.loop-more.invariant.still c.loop-more-test.true, c.loop-more.invariant.ok.planted.good.nodes)

pub loop-more-smaller-then-in_pattern : goal.loop-more-smaller-then-in_pattern
loop-more-smaller-then-in_pattern c = omega (arith, in_tree c.loop-more.invariant.ok.planted c.loop-more.invariant.still c.loop-more-test.true, count_kept c.loop-more.invariant)

pub loop-more-preserved-then-in_pattern : goal.loop-more-preserved-then-in_pattern
loop-more-preserved-then-in_pattern c = preventing-in c.loop-more.invariant c.loop-more-test.true (sym (c.in_pattern.ensures _ c.kind_at-kind.ensures.1) ∙ c.if-in_pattern.true) c.arity_at.ensures

pub ident_at-x-requires : goal.ident_at-x-requires
ident_at-x-requires c = ((c.loop-more.invariant.ok.planted.good, in_tree c.loop-more.invariant.ok.planted c.loop-more.invariant.still c.loop-more-test.true), inl (rw c.in-BindingIdent.is at c.kind_at-kind.ensures.1))

pub skip-at-requires : goal.skip-at-requires
skip-at-requires c =
    let d = c.loop-more.invariant in
    let z = c.loop-more-test.true in
    elim c.match-kind.branch [
      | in-BindingIdent v ↦ rw v.w-is (name-needs d z v.ident_at-x.result v.prevent_inline.ensures)
      | in_default v ↦ rw v.w-is (d.ok.planted, in_tree d.ok.planted d.still z)
    ]

pub loop-more-smaller : goal.loop-more-smaller
loop-more-smaller c = omega (arith, in_tree c.loop-more.invariant.ok.planted c.loop-more.invariant.still c.loop-more-test.true, c.skip-at.ensures.1, count_kept c.loop-more.invariant)

pub loop-more-preserved : goal.loop-more-preserved
loop-more-preserved c =
    let d = c.loop-more.invariant in
    let z = c.loop-more-test.true in
    elim c.match-kind.branch [
      | in-BindingIdent v ↦ rw v.w-is (preventing-name d z (rw v.in-BindingIdent.is at c.kind_at-kind.ensures.1) v.ident_at-x.ensures v.prevent_inline.ensures (rw v.w-is at c.skip-at.ensures.0))
      | in_default v ↦ rw v.w-is (preventing-past d z (sym (c.in_pattern.ensures _ c.kind_at-kind.ensures.1) ∙ c.if-in_pattern.false) (λ e. v.in_default.not-BindingIdent (c.kind_at-kind.ensures.0 ∙ ap kind_of e)) (rw v.w-is at c.skip-at.ensures.0))
    ]

pub returns : goal.returns
returns c = preventing-all c.loop-more.invariant (omega (arith, c.loop-more-test.false))

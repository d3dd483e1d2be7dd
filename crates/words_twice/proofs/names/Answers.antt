-- Tree by tree, into patterns. Assumes nothing.
use mathlib.Core.Path.{refl, sym, ap, ◌∙◌}
use native.Mathlib.Omega.{arith}
use Rattle.def_tree.specs.Tree.{Core}
use Rattle.words_nodes.proofs.Words.{in_tree, few-open, node-here}
use Rattle.words_twice.proofs.Declaring as declaring
use Rattle.words_twice.proofs.Looks as looks
use Rattle.words_twice.proofs.names.Goals as goal

pub kind_at-requires : goal.kind_at-requires
kind_at-requires c = looks.in-words c.requires.0 (in_tree c.requires.0 c.loop-more.invariant.still (omega arith))

pub arity_at-requires : goal.arity_at-requires
arity_at-requires c = looks.in-words c.requires.0 (in_tree c.requires.0 c.loop-more.invariant.still (omega arith))

pub overflow_add-more : goal.overflow_add-more
overflow_add-more c = omega (arith, few-open c.requires.0 c.loop-more.invariant.still (omega arith), c.arity_at.ensures)

pub loop-more-smaller-then-in_pattern : goal.loop-more-smaller-then-in_pattern
loop-more-smaller-then-in_pattern c = omega (arith, in_tree c.requires.0 c.loop-more.invariant.still (omega arith))

pub loop-more-preserved-then-in_pattern : goal.loop-more-preserved-then-in_pattern
loop-more-preserved-then-in_pattern c = looks.names-in c.requires.0 c.args.costly c.loop-more.invariant (omega arith) (sym (c.in_pattern.ensures _ c.kind_at.ensures.1) ∙ c.if-in_pattern.true) (c.arity_at.ensures ∙ ap (λ (y : Core). y.arity) (node-here c.requires.0 c.loop-more.invariant.still (omega arith)))

pub name-requires : goal.name-requires
name-requires c = (c.requires.0, in_tree c.requires.0 c.loop-more.invariant.still (omega arith), c.loop-more.invariant.size)

pub returns-then-more-eq1 : goal.returns-then-more-eq1
returns-then-more-eq1 c = declaring.declaring-all (looks.names-past c.requires.0 c.args.costly c.loop-more.invariant (omega arith) (sym (c.in_pattern.ensures _ c.kind_at.ensures.1) ∙ c.if-in_pattern.false) c.name.ensures refl) (omega (arith, c.if-more-eq1.true)) (λ x. refl)

pub skip-at-requires : goal.skip-at-requires
skip-at-requires c = (c.requires.0, in_tree c.requires.0 c.loop-more.invariant.still (omega arith))

pub loop-more-preserved : goal.loop-more-preserved
loop-more-preserved c = looks.names-past c.requires.0 c.args.costly c.loop-more.invariant (omega arith) (sym (c.in_pattern.ensures _ c.kind_at.ensures.1) ∙ c.if-in_pattern.false) c.name.ensures c.skip-at.ensures.0

pub returns : goal.returns
returns c = declaring.declaring-all c.loop-more.invariant (omega arith) (λ x. refl)

-- Node by node, past functions. Assumes nothing.
use mathlib.Core.Path.{refl, sym, ap, ◌∙◌}
use native.Mathlib.Omega.{arith}
use Rattle.def_tree.specs.Tree.{Core}
use Rattle.words_nodes.proofs.Words.{in_tree, few-open, node-here}
use Rattle.words_twice.proofs.Declaring as declaring
use Rattle.words_twice.proofs.Looks as looks
use Rattle.words_twice.proofs.vars.Goals as goal

pub kind_at-requires : goal.kind_at-requires
kind_at-requires c = looks.in-words c.requires.0 (in_tree c.requires.0 c.loop-more.invariant.still (omega arith))

pub skip-at-requires : goal.skip-at-requires
skip-at-requires c = (c.requires.0, in_tree c.requires.0 c.loop-more.invariant.still (omega arith))

pub loop-more-preserved-then-is_function : goal.loop-more-preserved-then-is_function
loop-more-preserved-then-is_function c = looks.vars-past c.requires.0 c.loop-more.invariant (omega arith) (sym (c.is_function.ensures _ c.kind_at.ensures.1) ∙ c.if-is_function.true) c.skip-at.ensures.0

pub var_at-requires : goal.var_at-requires
var_at-requires c = (c.requires.0, in_tree c.requires.0 c.loop-more.invariant.still (omega arith), c.loop-more.invariant.size)

pub arity_at-requires : goal.arity_at-requires
arity_at-requires c = looks.in-words c.requires.0 (in_tree c.requires.0 c.loop-more.invariant.still (omega arith))

pub overflow_add-more : goal.overflow_add-more
overflow_add-more c = omega (arith, few-open c.requires.0 c.loop-more.invariant.still (omega arith))

pub overflow_add-at : goal.overflow_add-at
overflow_add-at c = omega (arith, c.requires.0.good.nodes, in_tree c.requires.0 c.loop-more.invariant.still (omega arith))

pub loop-more-smaller : goal.loop-more-smaller
loop-more-smaller c = omega (arith, in_tree c.requires.0 c.loop-more.invariant.still (omega arith))

pub loop-more-preserved : goal.loop-more-preserved
loop-more-preserved c = looks.vars-in c.requires.0 c.loop-more.invariant (omega arith) (sym (c.is_function.ensures _ c.kind_at.ensures.1) ∙ c.if-is_function.false) c.var_at.ensures (c.arity_at.ensures ∙ ap (λ (y : Core). y.arity) (node-here c.requires.0 c.loop-more.invariant.still (omega arith)))

pub returns : goal.returns
returns c = declaring.declaring-all c.loop-more.invariant (omega arith) (λ x. refl)

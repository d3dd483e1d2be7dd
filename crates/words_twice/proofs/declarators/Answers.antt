-- Declarator by declarator. Assumes nothing.
use Rattle.std.proofs.Common.{refl, arith}
use Rattle.words_nodes.proofs.Words.{in_tree}
use Rattle.words_twice.proofs.Declaring as declaring
use Rattle.words_twice.proofs.Looks as looks
use Rattle.words_twice.proofs.declarators.Goals as goal

pub declares-requires : goal.declares-requires
declares-requires c = (c.requires.0, in_tree c.requires.0 c.loop-k.invariant.still (omega (arith, c.loop-k-test.true)), c.loop-k.invariant.size)

pub skip-at-requires : goal.skip-at-requires
skip-at-requires c = (c.requires.0, in_tree c.requires.0 c.loop-k.invariant.still (omega (arith, c.loop-k-test.true)))

pub loop-k-preserved : goal.loop-k-preserved
loop-k-preserved c = looks.declarators-next c.requires.0 c.loop-k.invariant c.loop-k-test.true c.declares.ensures c.skip-at.ensures.0

pub returns : goal.returns
returns c = declaring.declaring-all c.loop-k.invariant (omega (arith, c.loop-k-test.false)) (λ x. refl)

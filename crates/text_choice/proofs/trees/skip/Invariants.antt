-- From the tree of node k on, `trees` trees are still open at node `at`. Assumes nothing.
use Rattle.std.proofs.Common.{◌-◌}
use Rattle.words_nodes.proofs.Loops.{Passed}
use Rattle.text_choice.specs.Trees.{cores}
use Rattle.text_choice.proofs.trees.skip.Given as goal

abbrev pub invariant-loop-trees : goal.invariant-loop-trees
invariant-loop-trees l = Passed (cores l.nodes.file.now l.nodes.header) l.k l.«at» l.trees

abbrev pub decreases-loop-trees : goal.decreases-loop-trees
decreases-loop-trees l = l.nodes.header.nodes - l.«at»

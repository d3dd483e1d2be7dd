-- The node that is next rises; at one node, the scope of a function's name is entered before its own, and the loop goes on before both. Assumes nothing.
use Rattle.std.specs.Prelude.{◌+◌, ◌*◌, ◌-◌}
use Rattle.words.specs.Layout.{tree}
use Rattle.words_contexts.specs.Walk.{role_of}
use Rattle.words_contexts.proofs.Walking.{Walking}
use Rattle.words_contexts.proofs.+trees_enter_enter_named.Given as goal

abbrev pub decreases-enter : goal.decreases-enter
decreases-enter l = 3 * (1024 - l.from.at)

abbrev pub decreases-enter_named : goal.decreases-enter_named
decreases-enter_named l = 3 * (1024 - l.from.at) + 1

abbrev pub decreases-trees : goal.decreases-trees
decreases-trees l = 3 * (1024 - l.from.at) + 2

abbrev pub invariant-trees-loop-more : goal.invariant-trees-loop-more
invariant-trees-loop-more l = Walking (tree l.w) l.arguments l.table (role_of l.fn.last) l.fn.count l.fn.from l.fn.out (role_of l.last) l.more l.place l.out

abbrev pub decreases-trees-loop-more : goal.decreases-trees-loop-more
decreases-trees-loop-more l = 1024 - l.place.at

-- Node by node. Assumes nothing.
use Rattle.std.specs.Prelude.{◌-◌, get_or}
use Rattle.words.specs.Layout.{tree}
use Rattle.words_clash.specs.Clash.{nodes_clash}
use Rattle.words_clash.proofs.Loops as nodes
use Rattle.words_clash.proofs.nodes_clash.Given as goal

abbrev pub invariant-loop-more : goal.invariant-loop-more
invariant-loop-more l = nodes.Without nodes_clash (tree l.w) l.i l.n l.at l.more

abbrev pub decreases-loop-more : goal.decreases-loop-more
decreases-loop-more l = get_or l.w 0 0 - l.at

-- Tree by tree. Assumes nothing.
use Rattle.std.specs.Prelude.{◌-◌}
use Rattle.words.specs.Layout.{tree}
use Rattle.words_clash.specs.Clash.{blocks_clash}
use Rattle.words_clash.proofs.Loops as nodes
use Rattle.words_clash.proofs.blocks_clash.Given as goal

abbrev pub invariant-loop-k : goal.invariant-loop-k
invariant-loop-k l = nodes.Without blocks_clash (tree l.w) l.i l.n l.at (l.n - l._k)

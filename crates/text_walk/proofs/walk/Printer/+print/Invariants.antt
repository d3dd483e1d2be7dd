-- A node's tree goes to its row, that to the row's parts, these to a list of children, and each of these is a later node. Assumes nothing.
use Rattle.std.specs.Prelude.{◌+◌, ◌*◌, ◌-◌, eqb, drop}
use Rattle.text_spots.specs.Spots.{bars_of, next_of, spot_of}
use Rattle.text_parts.specs.Parts.{kid_count}
use Rattle.text_walk.specs.Walk.{put_right, put_list}
use Rattle.text_walk.proofs.Listing.{Listing}
use Rattle.text_walk.proofs.Going.{Going}
use Rattle.text_walk.proofs.walk.Printer.+print.Given as goal

abbrev pub decreases-print : goal.decreases-print
decreases-print l = 4 * (1024 - l.k) + 3

abbrev pub decreases-by_row : goal.decreases-by_row
decreases-by_row l = 4 * (1024 - l.k) + 2

abbrev pub decreases-right : goal.decreases-right
decreases-right l = 4 * (1024 - l.k) + 1

abbrev pub decreases-kids : goal.decreases-kids
decreases-kids l = 4 * (1024 - l.k)

abbrev pub invariant-kids-loop-i : goal.invariant-kids-loop-i
invariant-kids-loop-i l =
    let bs = l.self.nodes.file.now in
    let h = l.self.nodes.header in
    Listing bs h l.self.nodes.readable l.k l.count l.fn.at l.list.kids (spot_of l.spot) (next_of l.list.last) (put_list bs h l.k l.list.kids (spot_of l.spot) (bars_of l.list.bars) (next_of l.list.last) l.count l.fn.at) l.fn.words (l.count - l.i) l.next (eqb l.i 0) (bars_of l.bars) l.words

abbrev pub invariant-right-loop-j : goal.invariant-right-loop-j
invariant-right-loop-j l =
    let bs = l.self.nodes.file.now in
    let h = l.self.nodes.header in
    Going bs h l.self.nodes.readable l.k l.m l.fn.at (kid_count l.m l.parts) (spot_of l.spot) (put_right bs h l.k l.m (spot_of l.spot) l.parts l.fn.at) l.fn.words l.j l.next (bars_of l.bars) (next_of l.behind) (drop l.j l.parts) l.words

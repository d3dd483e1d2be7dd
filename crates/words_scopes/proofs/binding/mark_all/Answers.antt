-- One more record is marked. Assumes nothing.
use Rattle.std.proofs.Common.{arith}
use Rattle.std.proofs.lemmas.List.Edits.{map_over_more}
use Rattle.std.proofs.lemmas.List.{get_or_default}
use Rattle.words_scopes.specs.Mark.{marked}
use Rattle.words_scopes.proofs.binding.mark_all.Goals as goal

pub loop-b-preserved : goal.loop-b-preserved
loop-b-preserved c =
    let at = get_or_default c.loop-b.bs c.loop-b.b-index _ _ (omega arith) in
    rw c.mark.ensures (map_over_more (marked c.args.x) c.args.bs.now c.loop-b.bs c.loop-b.b-index _ c.loop-b-test.true c.loop-b.invariant at)

-- Assumes nothing.
use Rattle.std.proofs.Common.{◌∙◌}
use Rattle.std.specs.Prelude.{codes}
use Rattle.text_spots.specs.Spots.{next_of}
use Rattle.text_choice.proofs.Openings.{text-told, opens-let, opens-async, opens-other}
use Rattle.text_choice.proofs.opening.opening_text.Goals as goal

pub returns-then-eq-3 : goal.returns-then-eq-3
returns-then-eq-3 c = opens-let c.args.text.now c.args.next (text-told (codes "let") c.args.text.now c.as_slice-else-eq-2.result.now c.eq-else-eq-2.result c.as_slice-else-eq-2.ensures c.eq-else-eq-2.ensures ∙ c.if-eq-3.true)

pub returns-then-eq-4 : goal.returns-then-eq-4
returns-then-eq-4 c = opens-async c.args.text.now c.args.next (text-told (codes "async") c.args.text.now c.as_slice-else-eq-3.result.now c.eq-else-eq-3.result c.as_slice-else-eq-3.ensures c.eq-else-eq-3.ensures ∙ c.if-eq-4.true)

pub returns-else-eq-4 : goal.returns-else-eq-4
returns-else-eq-4 c =
    let t = c.args.text.now in
    opens-other t (next_of c.args.next)
    (text-told (codes "{") t c.as_slice.result.now c.eq.result c.as_slice.ensures c.eq.ensures ∙ c.if-eq.false)
    (text-told (codes "function") t c.as_slice-else-eq.result.now c.eq-else-eq.result c.as_slice-else-eq.ensures c.eq-else-eq.ensures ∙ c.if-eq-2.false)
    (text-told (codes "let") t c.as_slice-else-eq-2.result.now c.eq-else-eq-2.result c.as_slice-else-eq-2.ensures c.eq-else-eq-2.ensures ∙ c.if-eq-3.false)
    (text-told (codes "async") t c.as_slice-else-eq-3.result.now c.eq-else-eq-3.result c.as_slice-else-eq-3.ensures c.eq-else-eq-3.ensures ∙ c.if-eq-4.false)

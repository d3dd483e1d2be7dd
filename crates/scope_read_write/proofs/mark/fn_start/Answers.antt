-- The first function outwards. Assumes nothing.
use Rattle.std.proofs.Common.{rules, ◌≡◌, get_or, Some, None, ap, ◌∙◌}
use Rattle.scope_find.proofs.Down.{find_down}
use Rattle.scope_read_write.proofs.Fields as fields
use Rattle.scope_read_write.proofs.mark.fn_start.Goals as goal

pub returns : goal.returns
returns c =
    let w = c.args.w.now in
    let r : c.map_or.result ≡ fields.start_of w c.find.result = elim c.find.result [ None ↦ search rules | Some k ↦ search rules ] in
    r ∙ ap (fields.start_of w) (find_down (get_or w 2 0) (fields.fn-at w) _ _ _ c.find.ensures.ran c.rev.ensures.source (λ x b q h. search rules)) ∙ fields.nearest-all w

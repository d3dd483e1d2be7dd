use mathlib.Core.Path.{◌∙◌}
use Rattle.words.specs.Place.{placed}
use Rattle.scope_find.proofs.Facts.{found_at}
use Rattle.scope.proofs.Numbers as numbers
use lib.ListN.{get_or}
use Rattle.scope.proofs.var_info.find_binding.Goals as goal

pub returns : goal.returns
returns c =
    let w = c.args.w.now in
    let r = placed c.find_binding.result in
    let h = numbers.placed-most c.find_binding.result (get_or w 1 0) c.find_binding.ensures.bound in
    (found_at w c.args.x r c.find_binding.ensures.place ∙ numbers.number-place w c.requires r h, numbers.number-most w c.requires r h)

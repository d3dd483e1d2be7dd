use mathlib.Core.Path.{◌∙◌}
use Rattle.words.specs.Place.{placed}
use Rattle.scope.proofs.Numbers as numbers
use Rattle.scope.proofs.var_info.find_binding_from_current.Goals as goal

pub returns : goal.returns
returns c =
    let w = c.args.w.now in
    let r = placed c.find_binding_from_current.result in
    let found = c.find_binding_from_current.ensures.found in
    (found.0 ∙ numbers.number-place w c.requires r found.1, numbers.number-most w c.requires r found.1)

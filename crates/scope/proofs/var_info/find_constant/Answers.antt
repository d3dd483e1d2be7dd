use mathlib.Core.Path.{sym, ap, ◌∙◌}
use mathlib.Core.Option.{some}
use native.Mathlib.Omega.{arith}
use Rattle.scope.specs.Handles.{counted_o}
use Rattle.scope.proofs.Numbers as numbers
use Rattle.scope.proofs.var_info.find_constant.Goals as goal

pub returns : goal.returns
returns c =
    let found = c.in_ok-v.ensures.0 in
    (sym (ap counted_o found.0 ∙ ap some (numbers.held-count found.1.1)), omega (arith, found.1.1.inside), c.in_ok-v.ensures.1)

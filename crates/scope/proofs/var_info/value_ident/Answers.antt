use native.Mathlib.Omega.{arith}
use Rattle.scope.proofs.Numbers as numbers
use Rattle.scope.proofs.var_info.value_ident.Goals as goal

pub named-requires : goal.named-requires
named-requires c =
    let h = c.in_ok-b.ensures.1 in
    ((c.requires, h), c.offset-at.ensures.0, omega (arith, numbers.bound-inside c.args.w.now c.requires c.in_ok-b.b h, c.offset-at.ensures.0))

use mathlib.Core.Path.{sym, ◌∙◌}
use native.Mathlib.Omega.{arith}
use Rattle.scope.proofs.Numbers as numbers
use Rattle.scope.proofs.var_info.value_len.Goals as goal

pub returns-then-known : goal.returns-then-known
returns-then-known c =
    let h = c.known.ensures.0 c.if-known.true in
    rw (numbers.number_in c.args.w.now c.requires c.args.b h) (c.value_len.ensures.0 ∙ sym (numbers.bound-count c.args.w.now c.requires c.args.b h), omega (arith, c.value_len.ensures.1))

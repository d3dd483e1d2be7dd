use mathlib.Core.Path.{sym, ◌∙◌}
use Rattle.scope.proofs.Numbers as numbers
use Rattle.scope.proofs.var_info.value_run.Goals as goal

pub returns-then-len-eq0 : goal.returns-then-len-eq0
returns-then-len-eq0 c = rw c.in_ok-b.ensures.0 (numbers.bound-none c.args.w.now c.requires c.in_ok-b.b c.in_ok-b.ensures.1 (sym c.value_len-len.ensures.0 ∙ c.if-len-eq0.true), tt)

pub returns : goal.returns
returns c =
    let z = numbers.some_of c.value_len-len.result c.if-len-eq0.false in
    rw c.in_ok-b.ensures.0 (numbers.bound-kept c.args.w.now c.requires c.in_ok-b.b c.in_ok-b.ensures.1 c.offset-at.result c.value_len-len.result c.offset-at.ensures.0 c.value_len-len.ensures.0 z)

-- In place, or appended. Assumes nothing.
use Rattle.std.proofs.Common.{refl, []}
use Rattle.scope_values.proofs.Listed as listed
use Rattle.scope_values.proofs.constant.add_const.Goals as goal

pub returns-then-w-eq0 : goal.returns-then-w-eq0
returns-then-w-eq0 c =
    let w = c.args.w.now in
    let e = listed.stack-none w c.if-w-eq0.true in
    rw e (listed.becomes-self w [] c.requires.0 e, refl)

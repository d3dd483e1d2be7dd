use Rattle.scope.proofs.Numbers as numbers
use Rattle.scope.proofs.var_info.var_inline_prevented.Goals as goal

pub returns-then-known : goal.returns-then-known
returns-then-known c = rw (numbers.number_in c.args.w.now c.requires c.args.b (c.known.ensures.0 c.if-known.true)) c.var_inline_prevented.ensures

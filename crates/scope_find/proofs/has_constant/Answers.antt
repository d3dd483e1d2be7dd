-- A scan of all constants. Assumes nothing.
use Rattle.std.proofs.Common.{◌∙◌}
use Rattle.scope_find.proofs.AllConsts.{has-first}
use Rattle.scope_find.proofs.has_constant.Goals as goal

pub returns : goal.returns
returns c = c.is_some.ensures ∙ has-first c.args.w.now c.requires c.args.x c.first_at.result c.first_at.ensures

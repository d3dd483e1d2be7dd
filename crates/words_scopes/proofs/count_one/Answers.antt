-- A replacement counted at the innermost binding. Assumes nothing.
use Rattle.std.proofs.Common.{sym}
use Rattle.words_scopes.proofs.Words as laws
use Rattle.words_scopes.proofs.count_one.Goals as goal

pub returns-in_default : goal.returns-in_default
returns-in_default c = laws.unfound c.args.w.now c.args.x _ c.requires (sym c.in_default.ensures.place)

pub returns : goal.returns
returns c = laws.counted c.args.w.now c.requires c.in-Some.k c.in-Some.ensures.bound c.args.x (sym c.in-Some.ensures.place)

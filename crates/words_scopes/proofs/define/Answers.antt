-- The innermost binding, one field. Assumes nothing.
use Rattle.std.proofs.Common.{sym}
use Rattle.words_scopes.proofs.Words as laws
use Rattle.words_scopes.proofs.Stored.{defined-now}
use Rattle.words_scopes.proofs.define.Goals as goal

pub returns-in_default : goal.returns-in_default
returns-in_default c = laws.unfound c.args.w.now c.args.x _ c.requires (sym c.in_default.ensures.place)

pub returns-in-Some : goal.returns-in-Some
returns-in-Some c = defined-now c.args.w.now c.requires c.in-Some.k c.in-Some.ensures.bound c.args.x (sym c.in-Some.ensures.place)

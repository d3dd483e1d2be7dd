-- The innermost binding, one field. Assumes nothing.
use Rattle.std.proofs.Common.{sym}
use Rattle.words_scopes.proofs.Words as words
use Rattle.scope_read_write.proofs.Fields as fields
use Rattle.scope_read_write.proofs.mark.mark_this_sensitive.Goals as goal

pub returns-in-Some : goal.returns-in-Some
returns-in-Some c = fields.sensed c.args.w.now c.requires c.in-Some.k c.in-Some.ensures.bound c.args.x (sym c.in-Some.ensures.place)

pub returns-in_default : goal.returns-in_default
returns-in_default c = words.unfound c.args.w.now c.args.x _ c.requires (sym c.in_default.ensures.place)

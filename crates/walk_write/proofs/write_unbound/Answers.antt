-- By what the current scope has. Assumes nothing.
use Rattle.std.proofs.Common.{suc, refl}
use Rattle.walk_write.proofs.Patterns.{bound-act, unbound-act}
use Rattle.walk_write.proofs.write_unbound.Goals as goal

pub returns-in-Some : goal.returns-in-Some
returns-in-Some c = bound-act c.args.w.now c.args.i c.ident_at-x.result (suc c.in-Some.field-0) c.requires.1 c.ident_at-x.ensures c.in-Some.ensures.0 c.in-Some.field-0 refl c.in-Some.ensures.1 c.requires.0

pub returns-in-None : goal.returns-in-None
returns-in-None c = unbound-act c.args.w.now c.args.i c.ident_at-x.result 0 c.requires.1 c.ident_at-x.ensures c.in-None.ensures.0 refl c.write_ident.ensures

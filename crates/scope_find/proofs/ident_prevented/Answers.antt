-- The innermost binding's mark. Assumes nothing.
use Rattle.std.proofs.Common.{suc, sym, ap, ◌∙◌}
use Rattle.def_pass.specs.Scope.{mark_of}
use Rattle.scope_find.proofs.Facts as facts
use Rattle.scope_find.proofs.ident_prevented.Goals as goal

pub returns-in_default : goal.returns-in_default
returns-in_default c = sym (ap mark_of (facts.found_at c.args.w.now c.args.x 0 c.in_default.ensures.place))

pub returns : goal.returns
returns c = c.inline_prevented.ensures ∙ sym (ap mark_of (facts.found_at c.args.w.now c.args.x (suc c.in-Some.b) c.in-Some.ensures.place))

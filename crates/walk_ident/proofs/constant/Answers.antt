use Rattle.std.proofs.Common.{sym, ap, ◌∙◌}
use Rattle.scope.specs.Handles.{counted_o}
use Rattle.walk_ident.proofs.Fates as fates
use Rattle.walk_ident.proofs.constant.Goals as goal

pub returns-then-not-is_first_run : goal.returns-then-not-is_first_run
returns-then-not-is_first_run c = (sym (ap counted_o (fates.const-later c.args.w.now c.args.i (sym c.is_first_run.ensures ∙ c.if-not-is_first_run.true))), tt)

pub returns : goal.returns
returns c = (c.find_constant.ensures.0 ∙ sym (ap counted_o (fates.const-at c.args.w.now c.args.i c.ident_at-x.result c.requires.1 c.ident_at-x.ensures (sym c.is_first_run.ensures ∙ c.if-not-is_first_run.false))), c.find_constant.ensures.1)

use Rattle.std.proofs.Common.{suc, ◌∙◌}
use Rattle.def_pass.specs.Scope.{value_o}
use Rattle.words_scopes.specs.State.{stack}
use Rattle.scope.specs.Handles.{numbered}
use Rattle.walk_ident.specs.Steps.{value_by}
use Rattle.walk_ident.proofs.Fates as fates
use Rattle.walk_ident.proofs.same_ident.Goals as goal

pub returns : goal.returns
returns c = c.eq.ensures ∙ rw c.from.ensures (fates.same-is c.args.x (value_by c.args.w.now c.args.b) (value_o (numbered (stack c.args.w.now) (suc c.args.b))) c.requires.1 c.value_ident.result c.value_ident.ensures)

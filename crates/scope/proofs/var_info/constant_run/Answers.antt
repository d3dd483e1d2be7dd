use Rattle.std.specs.Prelude.{Some}
use Rattle.scope.proofs.Numbers as numbers
use Rattle.scope.proofs.var_info.constant_run.Goals as goal

pub returns : goal.returns
returns c = (numbers.const-kept c.args.w.now c.args.x c.in_ok-run.run' c.in_ok-run.ensures, numbers.const_free c.args.w.now c.args.x (Some c.in_ok-run.run') c.in_ok-run.ensures)

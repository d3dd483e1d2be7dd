-- A fresh record appended. Assumes nothing.
use Rattle.std.proofs.Common.{subst}
use Rattle.def_pass.specs.Scope.{VarInfo, append}
use Rattle.words_scopes.specs.State.{Becomes, stack}
use Rattle.words_scopes.proofs.push.Goals as goal

pub returns : goal.returns
returns c =
    let w = c.args.w.now in
    subst (λ (b : VarInfo). Becomes w c.append_record.new.w (append b (stack w))) (c.fresh-r.ensures c.args.id) c.append_record.ensures.0

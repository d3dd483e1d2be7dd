-- A scope dropped. Assumes nothing.
use Rattle.std.proofs.Common.{◌-◌, get_or, arith}
use Rattle.words_scopes.proofs.Grow.{top-begins}
use Rattle.words_scopes.proofs.Shrink as shrink
use Rattle.words_scopes.proofs.drop_scope.Goals as goal

pub restore-requires : goal.restore-requires
restore-requires c =
    let w = c.args.w.now in
    let b = top-begins w c.requires.0 (omega arith) in
    (c.requires.0, rw c.first_binding-n.ensures b)

pub returns : goal.returns
returns c =
    let w = c.args.w.now in
    let d = get_or w 2 0 - 1 in
    rw (c.first_binding-n.ensures, c.first_constant-c.ensures) (shrink.shrunk w c.restore.new.w c.merge.new.w c.requires.0 d (omega arith) (omega arith) (rw c.first_binding-n.ensures at c.restore.ensures) c.merge.ensures)

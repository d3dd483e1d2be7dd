-- The count of a binding overwritten. Assumes nothing.
use Rattle.scope_declare.proofs.Fields.{recounted, recounted-past}
use Rattle.scope_declare.proofs.redeclare.set_count.Goals as goal

pub returns : goal.returns
returns c =
    let a = c.args in
    (recounted a.w.now c.requires.0 a.k c.requires.1 a.count, recounted-past a.w.now c.requires.0 a.k c.requires.1 a.count)

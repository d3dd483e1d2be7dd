-- Each arm is the row of its kind; the last one's is no row. Assumes nothing.
use Rattle.std.proofs.Common.{◌≡◌}
use Rattle.def_file.specs.Kinds.{row_of}
use Rattle.def_file.proofs.Rows.{none}
use Rattle.def_file.proofs.kinds.row_of.Goals as goal

pub returns-in-Block : goal.returns-in-Block
unfolding row_of
returns-in-Block c = λ k e. let two : k ≡ 2 = rw c.in-Block.is at e in rw two c.every-in-Block.ensures

pub returns-in-Invalid : goal.returns-in-Invalid
returns-in-Invalid c = λ k e. none k c.args.form (rw c.in-Invalid.is at e).1

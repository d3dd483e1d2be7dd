-- `file_read::preorder::nodes_ok` meets its contract: the constant table allows each node that fills a place under its parent. Assumes nothing.
use Rattle.std.proofs.Common.{◌∙◌}
use Rattle.file_kinds.proofs.Table.{unmoved}
use Rattle.file_read.specs.Child.{nodes_of}
use Rattle.file_read.proofs.Fill.{and-implied}
use Rattle.file_read.proofs.preorder.nodes_ok.Goals as goal

pub returns : goal.returns
returns c = c.nodes_ok_under.ensures ∙ and-implied _ _ (unmoved c.args.t (nodes_of c.args.file.now c.args.n))

-- `file_read::preorder::nodes_ok_under` meets its contract: the script's own place is filled, and nothing is left over. Assumes nothing.
use Rattle.std.proofs.Common.{drop, rules, tests}
use Rattle.file_read.proofs.Raws.{nodes-length}
use Rattle.file_read.proofs.Fill.{filled-whole}
use Rattle.file_read.proofs.preorder.nodes_ok_under.Goals as goal

pub returns : goal.returns
returns c = filled-whole c.node.result c.is_ok_and.result (nodes-length c.args.n (drop 32 c.args.file.now)) c.node.ensures c.is_ok_and.ensures (λ root h. search (rules, tests))

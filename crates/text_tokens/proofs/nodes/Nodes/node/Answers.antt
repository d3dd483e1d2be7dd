-- Assumes nothing.
use Rattle.std.proofs.Common.{sym, ◌∙◌}
use Rattle.file_read.proofs.Raws.{node-raw}
use Rattle.text_tokens.proofs.nodes.Nodes.node.Goals as goal

pub returns : goal.returns
returns c = c.node_at.ensures ∙ sym (node-raw c.args.self.header.nodes c.args.k c.args.self.file.now c.requires)

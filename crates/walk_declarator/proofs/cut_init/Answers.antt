-- A child is one of the nodes. Assumes nothing.
use Rattle.walk_declarator.proofs.Ends as ends
use Rattle.walk_declarator.proofs.cut_init.Goals as goal

pub tree_len-old-requires : goal.tree_len-old-requires
tree_len-old-requires c = (c.requires.0, ends.child-at c.requires.0 c.requires.1)

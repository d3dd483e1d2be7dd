-- A node is one deeper than its children: twice the depth that is left falls, and between a node and the reader of its children one more.
use Rattle.std.proofs.Common.{◌+◌, ◌*◌, ◌-◌, get_or}
use Rattle.def_file.specs.Script.{zero_node}
use Rattle.file_read.specs.Child.{nodes_of}
use Rattle.file_read.proofs.Fill.{Upto}
use Rattle.file_read.proofs.preorder.Nodes.+children_declarator_node.Given as goal

abbrev pub decreases-children : goal.decreases-children
decreases-children l = 2 * l.left

abbrev pub decreases-declarator : goal.decreases-declarator
decreases-declarator l = 2 * l.left

abbrev pub decreases-node : goal.decreases-node
decreases-node l = 2 * l.left + 1

-- the first i children are read
abbrev pub invariant-children-loop-i : goal.invariant-children-loop-i
invariant-children-loop-i l = Upto l.self.texts l.self.table.now (nodes_of l.self.file.now l.self.count) (l.left - 1) (get_or (nodes_of l.self.file.now l.self.count) l.at zero_node) l.at l.i l.next

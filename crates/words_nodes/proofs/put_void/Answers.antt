-- `void 0` in the place of a subtree. Assumes nothing.
use mathlib.Core.Path.{refl}
use native.Mathlib.Omega.{arith}
use lib.ListN.{get_or}
use Rattle.def_pass.specs.Tree.{void_zero}
use Rattle.words.specs.Layout.{tree}
use Rattle.words_nodes.specs.Nodes.{tree_from}
use Rattle.words_nodes.proofs.Splice.{room, put-done, void-spliced, void-names}
use Rattle.words_nodes.proofs.Rows.{row-8, row-9, row-0}
use Rattle.words_nodes.proofs.put_void.Goals as goal

pub returns-then-p-gt199 : goal.returns-then-p-gt199
returns-then-p-gt199 c = (row-8 c.args.p (get_or c.args.w.now 0 0) (tree_from (tree c.args.w.now) c.args.i) void_zero (omega arith), refl)

pub returns-then-old-n : goal.returns-then-old-n
returns-then-old-n c = (row-9 c.args.p (get_or c.args.w.now 0 0) (tree_from (tree c.args.w.now) c.args.i) void_zero (omega arith) (omega arith), refl)

pub returns : goal.returns
returns c =
    let r = room c.requires.0 c.requires.1 in (
      row-0 c.args.p (get_or c.args.w.now 0 0) (tree_from (tree c.args.w.now) c.args.i) void_zero (omega (arith, c.if-p-gt199.false)) (omega (arith, c.if-old-n.false)),
      put-done c.requires.0 c.requires.1 void_zero (rw c.tree_len-old.ensures.0 at (void-spliced c.slide.ensures (omega arith) c.put_node.ensures c.put_node-2.ensures)) void-names (omega (arith, c.if-old-n.false)),
    )

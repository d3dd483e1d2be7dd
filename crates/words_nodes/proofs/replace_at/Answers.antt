-- A recorded value in the place of a subtree: row 8, then row 9, then the copy. Assumes nothing.
use mathlib.Core.Path.{◌≡◌, refl}
use mathlib.Core.List.{List}
use Prim.Native.Nat.{ℕ, ◌+◌, ◌-◌, ◌≤◌, ◌<◌}
use native.Mathlib.Omega.{arith}
use lib.ListN.{get_or}
use Rattle.std.proofs.lemmas.Result.{err_from_is_err_and}
use Rattle.refusal.specs.declared.Refusal.TheVariants.{Depth}
use Rattle.def_tree.specs.Tree.{Tree, count}
use Rattle.def_pass.specs.Tree.{height}
use Rattle.words.specs.declared.Value.{Value}
use Rattle.words.specs.Layout.{tree, run}
use Rattle.words_nodes.specs.Nodes.{tree_from, value_from}
use Rattle.words_nodes.proofs.Splice.{run-count, run-trees}
use Rattle.words_nodes.proofs.Rows.{row-8, row-9, row-0}
use Rattle.words_nodes.proofs.Words.{store-drop, store-tree}
use Rattle.words_nodes.proofs.replace_at.Goals as goal

-- the value, and the tree that is measured
abbrev value : List ℕ → Value → Tree
value w v = value_from w v.base v.run.at v.run.len

abbrev stored : List ℕ → Value → Tree
stored w v = tree_from (run w v.base 0 (v.run.at + v.run.len)) v.run.at

stored-is : (w : List ℕ) (v : Value) → stored w v ≡ value w v
stored-is w v = store-tree w v.base (v.run.at + v.run.len) v.run.at v.run.len refl

low_enough : (w : List ℕ) (v : Value) (p e : ℕ) → (e ≡ v.run.at + count (stored w v)) × (height (stored w v) ≤ 201 - p) → height (value w v) ≤ 201 - p
low_enough w v p e h = (rw (stored-is w v) at h).1

pub within_height-requires : goal.within_height-requires
within_height-requires c =
    let v = c.args.v in
    (c.requires.3, omega (arith, c.requires.4), rw (store-drop c.args.w.now v.base (v.run.at + v.run.len) v.run.at v.run.len refl) (run-trees c.args.w.now v.base v.run.at v.run.len c.requires.4 c.requires.5))

pub returns-in_err-ok_or : goal.returns-in_err-ok_or
returns-in_err-ok_or c =
    let m : 201 - c.args.p < height (stored c.args.w.now c.args.v) = rw c.in_err-ok_or.ensures.ok_part at c.within_height.ensures in
    let high : 201 - c.args.p < height (value c.args.w.now c.args.v) = rw (stored-is c.args.w.now c.args.v) at m in
    let p = err_from_is_err_and c.from_residual.result c.from_residual.ensures.1 in
    let q : c.in_err-ok_or.field-0.0 ≡ Depth = grind arith in
    rw (p.1, p.2, q) (row-8 c.args.p (get_or c.args.w.now 0 0) (tree_from (tree c.args.w.now) c.args.i) (value c.args.w.now c.args.v) (omega (arith, c.requires.2)), refl)

pub returns-then-old-n : goal.returns-then-old-n
returns-then-old-n c =
    let v = c.args.v in
    let low = low_enough c.args.w.now v c.args.p c.in_ok-ok_or.field-0 (rw c.in_ok-ok_or.ensures.ok_part at c.within_height.ensures) in
    let n = run-count c.args.w.now v.base v.run.at v.run.len c.requires.4 c.requires.5 in
    (row-9 c.args.p (get_or c.args.w.now 0 0) (tree_from (tree c.args.w.now) c.args.i) (value c.args.w.now v) (omega (arith, c.requires.2)) (omega (arith, c.if-old-n.true)), refl)

pub put_run-requires : goal.put_run-requires
put_run-requires c = (c.requires.0, c.requires.1, c.tree_len-old.ensures.0, omega (arith, c.if-old-n.false), c.requires.3, c.requires.4, c.requires.5)

pub returns : goal.returns
returns c =
    let v = c.args.v in
    let low = low_enough c.args.w.now v c.args.p c.in_ok-ok_or.field-0 (rw c.in_ok-ok_or.ensures.ok_part at c.within_height.ensures) in
    let n = run-count c.args.w.now v.base v.run.at v.run.len c.requires.4 c.requires.5 in
    (row-0 c.args.p (get_or c.args.w.now 0 0) (tree_from (tree c.args.w.now) c.args.i) (value c.args.w.now v) (omega (arith, c.requires.2)) (omega (arith, c.if-old-n.false)), c.put_run.ensures)

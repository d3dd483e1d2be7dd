-- A node replaced by its second child, measured first. Assumes nothing.
use mathlib.Core.Path.{◌≡◌, refl}
use mathlib.Core.List.{List}
use Prim.Native.Nat.{ℕ, ◌+◌, ◌-◌, ◌≤◌, ◌<◌}
use native.Mathlib.Omega.{arith}
use lib.ListN.{get_or, drop}
use Rattle.std.proofs.lemmas.Result.{err_from_is_err_and}
use Rattle.refusal.specs.declared.Refusal.TheVariants.{Depth}
use Rattle.def_tree.specs.Tree.{count}
use Rattle.def_tree.proofs.Whole.{whole_drop}
use Rattle.def_pass.specs.Tree.{height}
use Rattle.words.specs.Layout.{tree, run}
use Rattle.words_nodes.specs.Nodes.{tree_from}
use Rattle.words_nodes.proofs.Splice.{outer-in, inner-in, lift-room}
use Rattle.words_nodes.proofs.Rows.{row-8, row-0}
use Rattle.words_nodes.proofs.Trees.{whole-trees}
use Rattle.words_nodes.proofs.Words.{tree-whole, tree-run}
use Rattle.words_nodes.proofs.unwrap.Goals as goal

-- what the measurement says of the child
measured : (w : List ℕ) (j p e : ℕ) → (e ≡ j + count (tree_from (run w 16 0 (get_or w 0 0)) j)) × (height (tree_from (run w 16 0 (get_or w 0 0)) j) ≤ 201 - p) → (e ≡ j + count (tree_from (tree w) j)) × (height (tree_from (tree w) j) ≤ 201 - p)
measured w j p e h = rw (tree-run w) at h

pub within_height-requires : goal.within_height-requires
within_height-requires c =
    let r = lift-room c.requires.0 c.requires.1 in
    let all = tree-whole c.requires.0 in
    (omega arith, inner-in c.requires.0 c.requires.1, rw tree-run (whole-trees (drop c.args.j (tree c.args.w.now)) (whole_drop c.args.j (tree c.args.w.now) all)))

pub returns-in_err-e : goal.returns-in_err-e
returns-in_err-e c =
    let high : 201 - c.args.p < height (tree_from (tree c.args.w.now) c.args.j) = let m : 201 - c.args.p < height (tree_from (run c.args.w.now 16 0 (get_or c.args.w.now 0 0)) c.args.j) = rw c.in_err-e.ensures.ok_part at c.within_height.ensures in rw (tree-run c.args.w.now) at m in
    let p = err_from_is_err_and c.from_residual.result c.from_residual.ensures.1 in
    let q : c.in_err-e.field-0.0 ≡ Depth = grind arith in
    rw (p.1, p.2, q) (row-8 c.args.p (get_or c.args.w.now 0 0) (tree_from (tree c.args.w.now) c.args.i) (tree_from (tree c.args.w.now) c.args.j) (omega (arith, c.requires.2)), refl)

pub tree_len-old-requires : goal.tree_len-old-requires
tree_len-old-requires c = (c.requires.0, outer-in c.requires.0 c.requires.1)

pub overflow_sub-e : goal.overflow_sub-e
overflow_sub-e c = omega (arith, (measured c.args.w.now c.args.j c.args.p c.in_ok-e.e (rw c.in_ok-e.ensures.ok_part at c.within_height.ensures)).0)

pub lift-requires : goal.lift-requires
lift-requires c = (c.requires.0, c.requires.1, c.tree_len-old.ensures.0, omega (arith, (measured c.args.w.now c.args.j c.args.p c.in_ok-e.e (rw c.in_ok-e.ensures.ok_part at c.within_height.ensures)).0))

pub returns : goal.returns
returns c =
    let r = lift-room c.requires.0 c.requires.1 in
    let high = measured c.args.w.now c.args.j c.args.p c.in_ok-e.e (rw c.in_ok-e.ensures.ok_part at c.within_height.ensures) in
    (row-0 c.args.p (get_or c.args.w.now 0 0) (tree_from (tree c.args.w.now) c.args.i) (tree_from (tree c.args.w.now) c.args.j) (omega (arith, c.requires.2)) (omega arith), c.lift.ensures)

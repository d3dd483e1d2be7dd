-- By the form, and by what the target is. Assumes nothing.
use Rattle.refusal.proofs.Rows.{number-some}
use mathlib.Core.Path.{refl, sym, ◌∙◌}
use mathlib.Core.Bool.{false}
use native.Mathlib.Omega.{arith}
use Rattle.def_tree.specs.Combine.{forest_at}
use Rattle.def_pass.specs.Walk.{write_forest}
use Rattle.words_state.specs.State.{abs}
use Rattle.walk_write.proofs.Steps.{act-tree, act-exit}
use Rattle.walk_write.proofs.AssignFirst.{first-none, first-always, first-stop, first-once, first-again}
use Rattle.walk_write.proofs.AssignLast.{target-in}
use Rattle.walk_write.proofs.assign.assign_first.Goals as goal

pub returns-then-n-eq0 : goal.returns-then-n-eq0
returns-then-n-eq0 c = first-none c.requires.0 c.args.f c.args.n c.args.i c.if-n-eq0.true

pub returns-then-f-ne-ASSIGN : goal.returns-then-f-ne-ASSIGN
returns-then-f-ne-ASSIGN c = first-always c.requires.0 c.args.f c.args.n c.args.i c.requires.1 c.if-n-eq0.false c.if-f-ne-ASSIGN.true c.write_trees.ensures

pub kind_at-kind-requires : goal.kind_at-kind-requires
kind_at-kind-requires c = (c.requires.0.good.long, omega (arith, target-in c.requires.0 c.args.n c.args.i c.requires.1 c.if-n-eq0.false, c.requires.0.good.nodes))

pub returns-in_err-write_trees : goal.returns-in_err-write_trees
returns-in_err-write_trees c = act-exit _ c.from_residual.result c.from_residual.ensures.1 (first-stop c.requires.0 c.args.f c.args.n c.args.i c.requires.1 c.if-n-eq0.false c.if-f-ne-ASSIGN.false c.in_err-write_trees.ensures (number-some _))

pub write_trees-requires-then-is_member : goal.write_trees-requires-then-is_member
write_trees-requires-then-is_member c = (c.in_ok-write_trees.ensures.ok.planted, rw (act-tree (write_forest false (forest_at (abs c.args.w.now) c.args.n c.args.i)) c.in_ok-write_trees.ensures refl) c.requires.1)

pub returns-then-is_member : goal.returns-then-is_member
returns-then-is_member c = first-again c.requires.0 c.args.f c.args.n c.args.i c.requires.1 c.if-n-eq0.false c.if-f-ne-ASSIGN.false c.in_ok-write_trees.ensures refl (sym (c.is_member.ensures _ c.kind_at-kind.ensures.1) ∙ c.if-is_member.true) c.write_trees-then-is_member.ensures

pub returns : goal.returns
returns c = first-once c.requires.0 c.args.f c.args.n c.args.i c.requires.1 c.if-n-eq0.false c.if-f-ne-ASSIGN.false c.in_ok-write_trees.ensures refl (sym (c.is_member.ensures _ c.kind_at-kind.ensures.1) ∙ c.if-is_member.false)

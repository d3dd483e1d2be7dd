use Rattle.scope.proofs.Given as given
use mathlib.Core.Path.{refl}
use Rattle.scope.proofs.run_of.Goals as goal

pub returns-in_default : goal.returns-in_default
returns-in_default c = rw c.in_default.is (given.runs_none c.args.w.now)

pub returns-then-not-in_tree : goal.returns-then-not-in_tree
returns-then-not-in_tree c = rw (c.in-Some.is, c.if-not-in_tree.ensures.1 refl) (given.runs_none c.args.w.now)

pub returns : goal.returns
returns c =
    let w = c.args.w.now in
    let i = c.in-Some.i in
    rw c.in-Some.is (given.runs-tree c.requires (c.if-not-in_tree.ensures.0 refl) c.tree_len.result c.tree_len.ensures.0 c.tree_len.ensures.2)

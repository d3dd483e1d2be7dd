use mathlib.Core.Path.{sym}
use lib.ListN.{get_or}
use Rattle.words.specs.Layout.{tree}
use Rattle.scope_declare.proofs.Init.{at-node}
use Rattle.scope.proofs.Given as given
use Rattle.scope.proofs.sited.Goals as goal

pub returns-in_default : goal.returns-in_default
returns-in_default c = (tt, given.init-bare (tree c.args.w.now) c.args.v (sym c.in_default.ensures))

pub returns-then-in_tree : goal.returns-then-in_tree
returns-then-in_tree c =
    let w = c.args.w.now in
    let h = c.in_tree.ensures.0 c.if-in_tree.true in
    let o = at-node c.args.v (sym c.in-Some.ensures) in
    (given.sited-in (get_or w 0 0) o h, given.init-in w o h)

pub returns : goal.returns
returns c = (tt, given.init-out (tree c.args.w.now) (at-node c.args.v (sym c.in-Some.ensures)) (c.in_tree.ensures.1 c.if-in_tree.false))

use Rattle.std.proofs.Common.{◌≡◌, List, ap}
use mathlib.Core.Option.{some}
use Rattle.refusal.proofs.Rows.{exit}
use Rattle.def_tree.specs.Tree.{Tree, Core}
use Rattle.words.specs.Layout.{tree}
use Rattle.words_nodes.specs.Nodes.{tree_from}
use Rattle.words_nodes.proofs.Splice.{inner-in}
use Rattle.words_state.specs.State.{abs}
use Rattle.scope.specs.Steps.{Did}
use Rattle.scope.specs.Handles.{tree_o}
use Rattle.scope.proofs.Numbers as numbers
use Rattle.walk_ident.specs.Steps.{first_f}
use Rattle.walk_ident.proofs.Assigns as assigns
use Rattle.walk_ident.proofs.assign.first_assigned.Goals as goal

pub returns-in_err-first_value : goal.returns-in_err-first_value
returns-in_err-first_value c =
    let w = c.args.w.now in
    let e : Tree = tree_from (tree w) c.args.j in
    let v = tree_o (tree w) c.args.j in
    let q : v ≡ some e = numbers.tree-in w c.args.j (inner-in c.requires.0 c.requires.1) in
    exit (λ r. Did w c.first_value.new.w r (first_f c.args.p c.args.x e c.args.i (abs w))) c.from_residual.result c.from_residual.ensures.1 (assigns.first-stop c.args.p c.args.x e c.args.i c.requires.0 c.first_value.auto.w v q _ c.in_err-first_value.ensures)

pub returns : goal.returns
returns c =
    let w = c.args.w.now in
    let e : Tree = tree_from (tree w) c.args.j in
    let v = tree_o (tree w) c.args.j in
    let q : v ≡ some e = numbers.tree-in w c.args.j (inner-in c.requires.0 c.requires.1) in
    let g = c.in_ok-first_value.ensures in
    assigns.first_on c.args.p c.args.x e c.args.i c.requires.0 c.first_value.auto.w v q g (ap (λ (xs : List Core). tree_from xs c.args.j) g.0.tree) c.lift_value.ensures.did

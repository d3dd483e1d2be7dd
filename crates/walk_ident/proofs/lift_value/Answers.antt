-- The second child in the place of its parent. Assumes nothing.
use Rattle.std.proofs.Common.{ℕ, ◌+◌, refl, ap}
use Rattle.refusal.proofs.Rows.{exit}
use Rattle.def_tree.specs.Tree.{Tree}
use Rattle.words.specs.Layout.{tree}
use Rattle.words_nodes.specs.Nodes.{tree_from}
use Rattle.words_nodes.proofs.Splice.{outer-in, inner-in}
use Rattle.words_state.specs.State.{abs}
use Rattle.scope.specs.Steps.{Did}
use Rattle.walk_ident.specs.Steps.{quiet, swap_f}
use Rattle.walk_ident.proofs.Laws as laws
use Rattle.walk_ident.proofs.lift_value.Goals as goal

pub tree_len-m-requires : goal.tree_len-m-requires
tree_len-m-requires c = (c.requires.0, inner-in c.requires.0 c.requires.1)

pub returns-in_err-unwrap-clause-did : goal.returns-in_err-unwrap-clause-did
returns-in_err-unwrap-clause-did c =
    let w = c.args.w.now in
    let e : Tree = tree_from (tree w) c.args.j in
    exit (λ r. Did w c.unwrap.new.w r (swap_f c.args.p e c.args.i (abs w))) c.from_residual.result c.from_residual.ensures.1 (laws.goes-stop w _ c.args.p c.args.i e c.requires.0 (outer-in c.requires.0 c.requires.1) quiet refl _ c.in_err-unwrap.ensures)

pub returns-clause-did : goal.returns-clause-did
returns-clause-did c =
    let w = c.args.w.now in
    let e : Tree = tree_from (tree w) c.args.j in
    let h = c.in_ok-unwrap.ensures in
    laws.goes_on w _ c.args.p c.args.i e c.requires.0 (outer-in c.requires.0 c.requires.1) quiet refl h (laws.turns-self h.1.planted) (ap (λ (k : ℕ). c.args.i + k) c.tree_len-m.ensures.0)

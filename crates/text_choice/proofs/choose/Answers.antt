-- Assumes nothing.
use Rattle.std.proofs.Common.{Option, sym, ◌∙◌, subst, arith}
use Rattle.text_spots.specs.Spots.{spot_of}
use Rattle.text_choice.specs.Trees.{shown, spelled}
use Rattle.text_choice.specs.declared.Choice.{Choice}
use Rattle.text_choice.specs.Choice.{ChosenIs}
use Rattle.text_choice.proofs.Standing.{as-is-few, inside-few, chosen-here, no-pair, no-inside, no-row, chosen-inside}
use Rattle.text_choice.proofs.choose.Goals as goal

pub stand-requires : goal.stand-requires
stand-requires c =
    let s = c.args.nodes in
    omega (arith, as-is-few (spelled s.file.now s.header) (shown s.file.now s.header c.args.k c.args.form) c.args.spot c.requires.1 c.as_is-here.result c.as_is-here.ensures)

pub returns-in-Some : goal.returns-in-Some
returns-in-Some c =
    let s = c.args.nodes in
    chosen-here s.file.now s.header s.readable c.args.k c.requires.0 c.args.form c.args.spot c.requires.1 c.node-node.result c.from-count.result c.node-node.ensures c.from-count.ensures c.as_is-here.result c.as_is-here.ensures c.in-Some.row c.in-Some.ensures

pub returns-then-not-in_pair : goal.returns-then-not-in_pair
returns-then-not-in_pair c =
    let s = c.args.nodes in
    no-pair s.file.now s.header s.readable c.args.k c.requires.0 c.args.form c.args.spot c.requires.1 c.node-node.result c.from-count.result c.node-node.ensures c.from-count.ensures c.as_is-here.result c.as_is-here.ensures c.in_default.ensures
    (sym (c.in_pair.ensures c.node-node.result.kind c.from.ensures.1) ∙ c.if-not-in_pair.true)

pub returns-in_err-inside : goal.returns-in_err-inside
returns-in_err-inside c =
    let s = c.args.nodes in
    subst (λ (o : Option Choice). ChosenIs (spelled s.file.now s.header) (shown s.file.now s.header c.args.k c.args.form) (spot_of c.args.spot) o) (sym c.from_residual.ensures)
    (no-inside s.file.now s.header s.readable c.args.k c.requires.0 c.args.form c.args.spot c.requires.1 c.node-node.result c.from-count.result c.node-node.ensures c.from-count.ensures c.as_is-here.result c.as_is-here.ensures c.in_default.ensures
    (sym (c.in_pair.ensures c.node-node.result.kind c.from.ensures.1) ∙ c.if-not-in_pair.false) c.in_err-inside.ensures)

pub stand-requires-2 : goal.stand-requires-2
stand-requires-2 c = omega (arith, inside-few c.args.spot c.in_ok-inside.inside c.in_ok-inside.ensures)

pub returns-in_err-row : goal.returns-in_err-row
returns-in_err-row c =
    let s = c.args.nodes in
    subst (λ (o : Option Choice). ChosenIs (spelled s.file.now s.header) (shown s.file.now s.header c.args.k c.args.form) (spot_of c.args.spot) o) (sym c.from_residual-in_err-row.ensures)
    (no-row s.file.now s.header s.readable c.args.k c.requires.0 c.args.form c.args.spot c.requires.1 c.node-node.result c.from-count.result c.node-node.ensures c.from-count.ensures c.as_is-here.result c.as_is-here.ensures c.in_default.ensures
    (sym (c.in_pair.ensures c.node-node.result.kind c.from.ensures.1) ∙ c.if-not-in_pair.false) c.in_ok-inside.inside c.in_ok-inside.ensures c.in_err-row.ensures)

pub returns : goal.returns
returns c =
    let s = c.args.nodes in
    chosen-inside s.file.now s.header s.readable c.args.k c.requires.0 c.args.form c.args.spot c.requires.1 c.node-node.result c.from-count.result c.node-node.ensures c.from-count.ensures c.as_is-here.result c.as_is-here.ensures c.in_default.ensures
    (sym (c.in_pair.ensures c.node-node.result.kind c.from.ensures.1) ∙ c.if-not-in_pair.false) c.in_ok-inside.inside c.in_ok-inside.ensures c.in_ok-row.row c.in_ok-row.ensures

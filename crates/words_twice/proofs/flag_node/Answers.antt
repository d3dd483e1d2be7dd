-- Kind, test, and the node stored. Assumes nothing.
use mathlib.Core.Bool.{false}
use mathlib.Core.Path.{sym, ap, ◌∙◌}
use native.Mathlib.Omega.{arith}
use Rattle.def_file.specs.Named.{kind_of}
use Rattle.words_twice.specs.Twice.{told}
use Rattle.words_twice.proofs.Declaring.{not-told}
use Rattle.words_twice.proofs.Looks as looks
use Rattle.words_twice.proofs.Steps as steps
use Rattle.words_twice.proofs.flag_node.Goals as goal

pub returns-in_default : goal.returns-in_default
returns-in_default c b h = steps.no-binding c.requires.0 c.args.j c.requires.1 b (λ e. c.in_default.not-BindingIdent (c.node_at-x.ensures.0.0 ∙ ap kind_of e))

pub bounds : goal.bounds
bounds c = omega (arith, c.requires.3, c.node_at-x.ensures.3, looks.below c.requires.0 c.requires.1 (rw c.in-BindingIdent.is at c.node_at-x.ensures.0.1))

pub put_node-requires : goal.put_node-requires
put_node-requires c =
    let x = c.node_at-x.ensures in
    let is = rw c.in-BindingIdent.is at x.0.1 in
    let room = steps.room c.requires.0 c.args.j c.requires.1 (λ x. false) c.requires.2 is in
    let l = looks.in-words c.requires.0 c.requires.1 in
    (l.0, l.1, (rw c.in-BindingIdent.is (omega arith), omega (arith, x.1, room), omega (arith, x.2)))

pub returns-in-AgainCostly : goal.returns-in-AgainCostly
returns-in-AgainCostly c b h =
    let x = c.node_at-x.ensures in
    let is = rw c.in-BindingIdent.is at x.0.1 in
    steps.flagged-done c.requires.0 c.args.j c.requires.1 b is x.3 (sym (h c.node_at-x.result.num (rw x.3 (looks.below c.requires.0 c.requires.1 is))) ∙ ap told c.in-AgainCostly.is) x.1 x.2 (rw c.in-BindingIdent.is at c.put_node.ensures)

pub returns-in_default-seen : goal.returns-in_default-seen
returns-in_default-seen c b h =
    let x = c.node_at-x.ensures in
    let is = rw c.in-BindingIdent.is at x.0.1 in
    steps.not-twice c.requires.0 c.args.j c.requires.1 b is x.3 (sym (h c.node_at-x.result.num (rw x.3 (looks.below c.requires.0 c.requires.1 is))) ∙ not-told _ c.in_default-seen.not-AgainCostly)

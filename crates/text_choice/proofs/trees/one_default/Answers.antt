-- Assumes nothing.
use Rattle.std.proofs.Common.{◌+◌, sym, ap, ◌∙◌, arith}
use Rattle.std.specs.Prelude.{Bool}
use Rattle.def_tree.specs.Base.{pick}
use Rattle.text_choice.proofs.Defaults.{counted-none, counted-here, counted-more, counted-all}
use Rattle.text_choice.proofs.trees.one_default.Goals as goal
use Rattle.text_choice.proofs.trees.one_default.Goals.{then-is_default, else-is_default}

pub loop-i-init : goal.loop-i-init
loop-i-init c = counted-none c.args.nodes.file.now c.args.nodes.header c.args.k c.args.n c.requires

pub is_default-requires : goal.is_default-requires
is_default-requires c = counted-here c.args.nodes.file.now c.args.nodes.header c.args.nodes.readable c.loop-i.invariant c.loop-i-test.true

pub overflow_add-defaults : goal.overflow_add-defaults
overflow_add-defaults c = omega (arith, c.loop-i.invariant.few)

pub skip-next-requires : goal.skip-next-requires
skip-next-requires c = counted-here c.args.nodes.file.now c.args.nodes.header c.args.nodes.readable c.loop-i.invariant c.loop-i-test.true

pub loop-i-preserved : goal.loop-i-preserved
loop-i-preserved c = counted-more c.args.nodes.file.now c.args.nodes.header c.args.nodes.readable c.loop-i.invariant c.loop-i-test.true c.is_default.result c.skip-next.result c.if-is_default.defaults c.is_default.ensures c.skip-next.ensures
    (elim c.if-is_default.branch [
      | then-is_default w ↦ w.defaults-is ∙ sym (ap (λ (b : Bool). pick b (c.loop-i.defaults + 1) c.loop-i.defaults) w.if-is_default.true)
      | else-is_default w ↦ w.defaults-is ∙ sym (ap (λ (b : Bool). pick b (c.loop-i.defaults + 1) c.loop-i.defaults) w.if-is_default.false)
    ])

pub returns : goal.returns
returns c = counted-all c.args.nodes.file.now c.args.nodes.header c.args.nodes.readable c.loop-i.invariant (omega (arith, c.loop-i.auto))

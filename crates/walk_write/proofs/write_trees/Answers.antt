-- The invariant: what is left to write are the names of the trees still open. Assumes nothing.
use Rattle.scope_read_write.specs.Writes.{forced}
use Rattle.refusal.proofs.Rows.{number-some}
use mathlib.Core.Path.{refl, sym, ◌∙◌}
use native.Mathlib.Omega.{arith}
use Rattle.def_tree.specs.Combine.{tree_at}
use Rattle.def_pass.specs.Walk.{write}
use Rattle.words.specs.Layout.{node_of}
use Rattle.words_state.specs.State.{abs}
use Rattle.words_nodes.proofs.Words.{in_tree, few-open}
use Rattle.walk_write.proofs.Names.{name-kind}
use Rattle.walk_write.proofs.Steps.{act-count, act-exit}
use Rattle.walk_write.proofs.Writing.{writing-none, writing-in, writing-past, writing-stop, writing-all, nodes-kept}
use Rattle.walk_write.proofs.write_trees.Goals as goal

pub loop-more-init : goal.loop-more-init
loop-more-init c = writing-none (forced c.args.how) c.args.n c.args.i c.requires.0 (record { trees = c.requires.1 })

pub is_name-requires : goal.is_name-requires
is_name-requires c = (c.loop-more.invariant.ok.planted, in_tree c.loop-more.invariant.ok.planted c.loop-more.invariant.still c.loop-more-test.true)

pub write_ident-requires : goal.write_ident-requires
write_ident-requires c = (c.loop-more.invariant.ok.planted, in_tree c.loop-more.invariant.ok.planted c.loop-more.invariant.still c.loop-more-test.true, name-kind (node_of c.loop-more.w c.loop-more.at).kind (sym c.is_name.ensures ∙ c.if-is_name.true))

pub returns-in_err-write_ident : goal.returns-in_err-write_ident
returns-in_err-write_ident c = act-exit _ c.from_residual.result c.from_residual.ensures.1 (writing-stop c.loop-more.invariant c.loop-more-test.true (sym c.is_name.ensures ∙ c.if-is_name.true) c.in_err-write_ident.ensures (number-some _))

pub skip-at-requires : goal.skip-at-requires
skip-at-requires c = (c.in_ok-write_ident.ensures.ok.planted, omega (arith, in_tree c.loop-more.invariant.ok.planted c.loop-more.invariant.still c.loop-more-test.true, act-count (write (forced c.args.how) (tree_at (abs c.loop-more.w) c.loop-more.at)) c.in_ok-write_ident.ensures refl))

pub loop-more-smaller-then-is_name : goal.loop-more-smaller-then-is_name
loop-more-smaller-then-is_name c = omega (arith, in_tree c.loop-more.invariant.ok.planted c.loop-more.invariant.still c.loop-more-test.true, c.skip-at.ensures.1, nodes-kept c.loop-more.invariant)

pub loop-more-preserved-then-is_name : goal.loop-more-preserved-then-is_name
loop-more-preserved-then-is_name c = writing-past c.loop-more.invariant c.loop-more-test.true (sym c.is_name.ensures ∙ c.if-is_name.true) c.in_ok-write_ident.ensures refl c.skip-at.ensures.0

pub arity_at-requires : goal.arity_at-requires
arity_at-requires c = (c.loop-more.invariant.ok.planted.good.long, omega (arith, in_tree c.loop-more.invariant.ok.planted c.loop-more.invariant.still c.loop-more-test.true, c.loop-more.invariant.ok.planted.good.nodes))

pub overflow_add-more : goal.overflow_add-more
overflow_add-more c = omega (arith, few-open c.loop-more.invariant.ok.planted c.loop-more.invariant.still c.loop-more-test.true)

pub overflow_add-at : goal.overflow_add-at
overflow_add-at c = omega (arith, in_tree c.loop-more.invariant.ok.planted c.loop-more.invariant.still c.loop-more-test.true, c.loop-more.invariant.ok.planted.good.nodes)

pub loop-more-smaller : goal.loop-more-smaller
loop-more-smaller c = omega (arith, in_tree c.loop-more.invariant.ok.planted c.loop-more.invariant.still c.loop-more-test.true, nodes-kept c.loop-more.invariant)

pub loop-more-preserved : goal.loop-more-preserved
loop-more-preserved c = writing-in c.loop-more.invariant c.loop-more-test.true (sym c.is_name.ensures ∙ c.if-is_name.false) c.arity_at.ensures

pub returns : goal.returns
returns c = writing-all c.loop-more.invariant (omega (arith, c.loop-more-test.false))

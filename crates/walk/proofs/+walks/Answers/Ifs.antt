-- The goals of ifs. Assumes nothing.
use Prim.Native.Nat.{◌+◌}
use native.Mathlib.Omega.{arith}
use Rattle.def_tree.specs.Combine.{many, split_f}
use Rattle.def_pass.specs.Scope.{cond as cond_kind}
use Rattle.laws_flat.specs.WalkF.{walks_f, visit_with_child_f, tested_f, visit_mut_if_stmt_f}
use Rattle.laws_flat.proofs.Sim.{sims}
use Rattle.walk_laws.proofs.Heres as heres
use Rattle.walk_laws.proofs.Ways as ways
use Rattle.walk.proofs.+walks.Goals as goal

pub ifs-arity_at-n-requires : goal.ifs-arity_at-n-requires
ifs-arity_at-n-requires t c = heres.at-node c.requires

pub ifs-overflow_add-result : goal.ifs-overflow_add-result
ifs-overflow_add-result t c = omega (arith, c.requires.depth, (heres.at-node c.requires).1)

pub ifs-returns-then-n-eq0 : goal.ifs-returns-then-n-eq0
unfolding visit_mut_if_stmt_f
ifs-returns-then-n-eq0 t c = ways.on-kids (λ q. split_f (tested_f (walks_f c.args.below) q) (many (visit_with_child_f (walks_f c.args.below) q cond_kind))) c.requires c.arity_at-n.ensures (ways.split-none (tested_f (walks_f c.args.below) (c.args.depth + 1)) (many (visit_with_child_f (walks_f c.args.below) (c.args.depth + 1) cond_kind)) c.arity_at-n.result (c.args.node + 1) c.if-n-eq0.true c.requires.planted)

pub ifs-overflow_add-depth : goal.ifs-overflow_add-depth
ifs-overflow_add-depth t c = omega (arith, c.requires.depth, (heres.at-node c.requires).1)

pub ifs-overflow_add-node : goal.ifs-overflow_add-node
ifs-overflow_add-node t c = omega (arith, c.requires.depth, (heres.at-node c.requires).1)

pub ifs-full-requires : goal.ifs-full-requires
ifs-full-requires t c = (omega (arith, c.decreases), heres.here-one c.if-n-eq0.false (heres.here-turn c.set_in_test.ensures (heres.here-kids c.requires c.arity_at-n.ensures)))

pub ifs-returns-in_err-j : goal.ifs-returns-in_err-j
unfolding visit_mut_if_stmt_f tested_f
ifs-returns-in_err-j t c = ways.did-exit c.from_residual.result c.from_residual.ensures.1 (ways.on-kids (λ q. split_f (tested_f (walks_f c.args.below) q) (many (visit_with_child_f (walks_f c.args.below) q cond_kind))) c.requires c.arity_at-n.ensures (ways.split-stop (tested_f (walks_f c.args.below) (c.args.depth + 1)) (many (visit_with_child_f (walks_f c.args.below) (c.args.depth + 1) cond_kind)) c.arity_at-n.result (c.args.node + 1) c.if-n-eq0.false (ways.test-stop ((walks_f c.args.below).full (c.args.depth + 1) (c.args.node + 1)) c.set_in_test.ensures c.in_err-j.ensures)))

pub ifs-overflow_add-depth-2 : goal.ifs-overflow_add-depth-2
ifs-overflow_add-depth-2 t c = omega (arith, c.requires.depth, (heres.at-node c.requires).1)

pub ifs-arms-requires : goal.ifs-arms-requires
ifs-arms-requires t c = (omega (arith, c.decreases), heres.here-turn c.set_in_test-2.ensures (heres.here-next ((sims c.args.below).full (c.args.depth + 1)) (heres.here-turn c.set_in_test.ensures (heres.here-kids c.requires c.arity_at-n.ensures)) c.if-n-eq0.false c.in_ok-j.ensures))

pub ifs-returns : goal.ifs-returns
unfolding visit_mut_if_stmt_f tested_f
ifs-returns t c = ways.on-kids (λ q. split_f (tested_f (walks_f c.args.below) q) (many (visit_with_child_f (walks_f c.args.below) q cond_kind))) c.requires c.arity_at-n.ensures (ways.split-then (tested_f (walks_f c.args.below) (c.args.depth + 1)) (many (visit_with_child_f (walks_f c.args.below) (c.args.depth + 1) cond_kind)) c.arity_at-n.result (c.args.node + 1) c.if-n-eq0.false (ways.test-then ((walks_f c.args.below).full (c.args.depth + 1) (c.args.node + 1)) c.set_in_test.ensures c.in_ok-j.ensures c.in_test-old.ensures c.set_in_test-2.ensures) c.arms.ensures)

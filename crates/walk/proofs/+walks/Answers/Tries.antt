-- The goals of tries. Assumes nothing.
use Prim.Native.Nat.{◌+◌}
use mathlib.Core.Bool.{true}
use native.Mathlib.Omega.{arith}
use Rattle.def_tree.specs.Combine.{◌>>◌, act, skip, split_f}
use Rattle.def_tree.proofs.Sims.{sim-skip}
use Rattle.def_pass.specs.Walk.{write_tree}
use Rattle.laws_flat.specs.WalkF.{walks_f, visit_mut_try_stmt_f}
use Rattle.walk_laws.specs.Did.{clauses_f}
use Rattle.walk_laws.proofs.Laws as laws
use Rattle.walk_laws.proofs.Heres as heres
use Rattle.walk_laws.proofs.Ways as ways
use Rattle.walk.proofs.+walks.Goals as goal

pub tries-arity_at-n-requires : goal.tries-arity_at-n-requires
tries-arity_at-n-requires t c = heres.at-node c.requires

pub tries-overflow_add-result : goal.tries-overflow_add-result
tries-overflow_add-result t c = omega (arith, c.requires.depth, (heres.at-node c.requires).1)

pub tries-returns-then-n-eq0 : goal.tries-returns-then-n-eq0
unfolding visit_mut_try_stmt_f
tries-returns-then-n-eq0 t c = ways.on-kids (λ q. split_f (λ i₁. act (write_tree true) i₁ >> skip i₁) (λ n i₁. clauses_f (walks_f c.args.below) q n i₁)) c.requires c.arity_at-n.ensures (ways.split-none (λ i₁. act (write_tree true) i₁ >> skip i₁) (λ n i₁. clauses_f (walks_f c.args.below) (c.args.depth + 1) n i₁) c.arity_at-n.result (c.args.node + 1) c.if-n-eq0.true c.requires.planted)

pub tries-overflow_add-node : goal.tries-overflow_add-node
tries-overflow_add-node t c = omega (arith, c.requires.depth, (heres.at-node c.requires).1)

pub tries-write_tree-requires : goal.tries-write_tree-requires
tries-write_tree-requires t c = heres.at-skip (heres.here-one c.if-n-eq0.false (heres.here-kids c.requires c.arity_at-n.ensures))

pub tries-returns-in_err-write_tree : goal.tries-returns-in_err-write_tree
unfolding visit_mut_try_stmt_f
tries-returns-in_err-write_tree t c = ways.did-exit c.from_residual.result c.from_residual.ensures.1 (ways.on-kids (λ q. split_f (λ i₁. act (write_tree true) i₁ >> skip i₁) (λ n i₁. clauses_f (walks_f c.args.below) q n i₁)) c.requires c.arity_at-n.ensures (ways.split-stop (λ i₁. act (write_tree true) i₁ >> skip i₁) (λ n i₁. clauses_f (walks_f c.args.below) (c.args.depth + 1) n i₁) c.arity_at-n.result (c.args.node + 1) c.if-n-eq0.false (laws.act-stop _ c.in_err-write_tree.ensures)))

pub tries-overflow_add-node-2 : goal.tries-overflow_add-node-2
tries-overflow_add-node-2 t c = omega (arith, c.requires.depth, (heres.at-node c.requires).1)

pub tries-skip-j-requires : goal.tries-skip-j-requires
tries-skip-j-requires t c = heres.at-skip (heres.here-one c.if-n-eq0.false (heres.here-tree (write_tree true) (c.args.node + 1) c.in_ok-write_tree.ensures (heres.here-kids c.requires c.arity_at-n.ensures)))

pub tries-overflow_add-depth : goal.tries-overflow_add-depth
tries-overflow_add-depth t c = omega (arith, c.requires.depth, (heres.at-node c.requires).1)

pub tries-parts-requires : goal.tries-parts-requires
tries-parts-requires t c = (omega (arith, c.decreases), heres.here-next sim-skip (heres.here-tree (write_tree true) (c.args.node + 1) c.in_ok-write_tree.ensures (heres.here-kids c.requires c.arity_at-n.ensures)) c.if-n-eq0.false (ways.did-skip (c.args.node + 1) (heres.here-tree (write_tree true) (c.args.node + 1) c.in_ok-write_tree.ensures (heres.here-kids c.requires c.arity_at-n.ensures)).planted c.skip-j.ensures.0))

pub tries-returns : goal.tries-returns
unfolding visit_mut_try_stmt_f
tries-returns t c = ways.on-kids (λ q. split_f (λ i₁. act (write_tree true) i₁ >> skip i₁) (λ n i₁. clauses_f (walks_f c.args.below) q n i₁)) c.requires c.arity_at-n.ensures (ways.split-then (λ i₁. act (write_tree true) i₁ >> skip i₁) (λ n i₁. clauses_f (walks_f c.args.below) (c.args.depth + 1) n i₁) c.arity_at-n.result (c.args.node + 1) c.if-n-eq0.false (laws.act-then _ c.in_ok-write_tree.ensures (ways.did-skip (c.args.node + 1) (heres.here-tree (write_tree true) (c.args.node + 1) c.in_ok-write_tree.ensures (heres.here-kids c.requires c.arity_at-n.ensures)).planted c.skip-j.ensures.0)) c.parts.ensures)

-- The goals of catch. Assumes nothing.
use Prim.Native.Nat.{suc, ◌+◌, ◌-◌}
use native.Mathlib.Omega.{arith}
use Rattle.def_tree.specs.Combine.{each_but_f, on_kids_f}
use Rattle.def_tree.proofs.Sims.{sim-each}
use Rattle.def_pass.specs.Scope.{block as block_kind}
use Rattle.def_pass.specs.Walk.{opening, set_pat_mode, as_catch}
use Rattle.laws_flat.specs.WalkF.{walks_f, catch_param_f, visit_mut_catch_clause_f}
use Rattle.laws_flat.proofs.Sim.{sims, sim-catch_param}
use Rattle.walk_laws.specs.Did.{caught_f}
use Rattle.walk_laws.proofs.Heres as heres
use Rattle.walk_laws.proofs.Ways as ways
use Rattle.walk.proofs.+walks.Goals as goal

pub catch-returns-in_err-enter : goal.catch-returns-in_err-enter
unfolding visit_mut_catch_clause_f
catch-returns-in_err-enter t c = ways.did-exit c.from_residual.result c.from_residual.ensures.1 (ways.scope-full block_kind (caught_f (walks_f c.args.below) c.args.depth c.args.node) c.in_err-enter.ensures.did)

pub catch-arity_at-n-requires : goal.catch-arity_at-n-requires
catch-arity_at-n-requires t c = heres.at-node (heres.here-turn c.set_pat_mode.ensures (heres.here-rest (opening block_kind) c.in_ok-enter.ensures.did c.requires))

pub catch-overflow_add-result : goal.catch-overflow_add-result
catch-overflow_add-result t c = omega (arith, c.requires.depth, (heres.at-node c.requires).1)

pub catch-returns-then-n-eq0 : goal.catch-returns-then-n-eq0
unfolding visit_mut_catch_clause_f
catch-returns-then-n-eq0 t c = ways.scope_then block_kind (caught_f (walks_f c.args.below) c.args.depth c.args.node) c.in_ok-enter.ensures.did (ways.modify-then (set_pat_mode as_catch) (on_kids_f (each_but_f (catch_param_f (walks_f c.args.below) (suc c.args.depth)) ((walks_f c.args.below).full (suc c.args.depth))) c.args.node) c.set_pat_mode.ensures (ways.on-kids (λ q. each_but_f (catch_param_f (walks_f c.args.below) q) ((walks_f c.args.below).full q)) (heres.here-turn c.set_pat_mode.ensures (heres.here-rest (opening block_kind) c.in_ok-enter.ensures.did c.requires)) c.arity_at-n.ensures (ways.but-none (catch_param_f (walks_f c.args.below) (c.args.depth + 1)) ((walks_f c.args.below).full (c.args.depth + 1)) c.arity_at-n.result (c.args.node + 1) c.if-n-eq0.true (heres.here-turn c.set_pat_mode.ensures (heres.here-rest (opening block_kind) c.in_ok-enter.ensures.did c.requires)).planted))) c.save_fields-before.ensures c.leave.ensures

pub catch-overflow_add-depth : goal.catch-overflow_add-depth
catch-overflow_add-depth t c = omega (arith, c.requires.depth, (heres.at-node c.requires).1)

pub catch-overflow_add-node : goal.catch-overflow_add-node
catch-overflow_add-node t c = omega (arith, c.requires.depth, (heres.at-node c.requires).1)

pub catch-binds-requires : goal.catch-binds-requires
catch-binds-requires t c = (omega (arith, c.decreases), heres.here-less (heres.here-kids (heres.here-turn c.set_pat_mode.ensures (heres.here-rest (opening block_kind) c.in_ok-enter.ensures.did c.requires)) c.arity_at-n.ensures))

pub catch-returns-in_err-j : goal.catch-returns-in_err-j
unfolding visit_mut_catch_clause_f
catch-returns-in_err-j t c = ways.did-exit c.from_residual-in_err-j.result c.from_residual-in_err-j.ensures.1 (ways.scope-stop block_kind (caught_f (walks_f c.args.below) c.args.depth c.args.node) c.in_ok-enter.ensures.did (ways.modify-then (set_pat_mode as_catch) (on_kids_f (each_but_f (catch_param_f (walks_f c.args.below) (suc c.args.depth)) ((walks_f c.args.below).full (suc c.args.depth))) c.args.node) c.set_pat_mode.ensures (ways.on-kids (λ q. each_but_f (catch_param_f (walks_f c.args.below) q) ((walks_f c.args.below).full q)) (heres.here-turn c.set_pat_mode.ensures (heres.here-rest (opening block_kind) c.in_ok-enter.ensures.did c.requires)) c.arity_at-n.ensures (ways.but-stop (catch_param_f (walks_f c.args.below) (c.args.depth + 1)) ((walks_f c.args.below).full (c.args.depth + 1)) c.arity_at-n.result (c.args.node + 1) c.if-n-eq0.false c.in_err-j.ensures))))

pub catch-overflow_add-depth-2 : goal.catch-overflow_add-depth-2
catch-overflow_add-depth-2 t c = omega (arith, c.requires.depth, (heres.at-node c.requires).1)

pub catch-full-requires : goal.catch-full-requires
catch-full-requires t c = (omega (arith, c.decreases), heres.here-behind (sim-each (sim-catch_param (sims c.args.below) (c.args.depth + 1))) (heres.here-kids (heres.here-turn c.set_pat_mode.ensures (heres.here-rest (opening block_kind) c.in_ok-enter.ensures.did c.requires)) c.arity_at-n.ensures) (c.arity_at-n.result - 1) (omega (arith, c.if-n-eq0.false)) c.in_ok-j.ensures)

pub catch-returns-in_err-end : goal.catch-returns-in_err-end
unfolding visit_mut_catch_clause_f
catch-returns-in_err-end t c = ways.did-exit c.from_residual-in_err-end.result c.from_residual-in_err-end.ensures.1 (ways.scope-stop block_kind (caught_f (walks_f c.args.below) c.args.depth c.args.node) c.in_ok-enter.ensures.did (ways.modify-then (set_pat_mode as_catch) (on_kids_f (each_but_f (catch_param_f (walks_f c.args.below) (suc c.args.depth)) ((walks_f c.args.below).full (suc c.args.depth))) c.args.node) c.set_pat_mode.ensures (ways.on-kids (λ q. each_but_f (catch_param_f (walks_f c.args.below) q) ((walks_f c.args.below).full q)) (heres.here-turn c.set_pat_mode.ensures (heres.here-rest (opening block_kind) c.in_ok-enter.ensures.did c.requires)) c.arity_at-n.ensures (ways.but-then (catch_param_f (walks_f c.args.below) (c.args.depth + 1)) ((walks_f c.args.below).full (c.args.depth + 1)) c.arity_at-n.result (c.args.node + 1) c.if-n-eq0.false c.in_ok-j.ensures c.in_err-end.ensures))))

pub catch-returns : goal.catch-returns
unfolding visit_mut_catch_clause_f
catch-returns t c = ways.scope_then block_kind (caught_f (walks_f c.args.below) c.args.depth c.args.node) c.in_ok-enter.ensures.did (ways.modify-then (set_pat_mode as_catch) (on_kids_f (each_but_f (catch_param_f (walks_f c.args.below) (suc c.args.depth)) ((walks_f c.args.below).full (suc c.args.depth))) c.args.node) c.set_pat_mode.ensures (ways.on-kids (λ q. each_but_f (catch_param_f (walks_f c.args.below) q) ((walks_f c.args.below).full q)) (heres.here-turn c.set_pat_mode.ensures (heres.here-rest (opening block_kind) c.in_ok-enter.ensures.did c.requires)) c.arity_at-n.ensures (ways.but-then (catch_param_f (walks_f c.args.below) (c.args.depth + 1)) ((walks_f c.args.below).full (c.args.depth + 1)) c.arity_at-n.result (c.args.node + 1) c.if-n-eq0.false c.in_ok-j.ensures c.in_ok-end.ensures))) c.save_fields-before.ensures c.leave-2.ensures

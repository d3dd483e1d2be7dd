-- The goals of call. Assumes nothing.
use Prim.Native.Nat.{◌+◌, ◌-◌}
use mathlib.Core.Path.{refl}
use mathlib.Core.Bool.{false, not}
use mathlib.Core.Option.{some}
use native.Mathlib.Omega.{arith}
use Rattle.def_tree.specs.Combine.{◌>>=◌, ◌>>◌, ret, act, act_f, many, split_f}
use Rattle.def_pass.specs.Scope.{mark_this_sensitive, ident_of}
use Rattle.def_pass.specs.Walk.{write_forest, when, mark}
use Rattle.laws_flat.specs.WalkF.{walks_f, visit_mut_call_expr_f}
use Rattle.laws_flat.proofs.Sim.{sims}
use Rattle.walk_laws.proofs.Laws as laws
use Rattle.walk_laws.proofs.Heres as heres
use Rattle.walk_laws.proofs.Ways as ways
use Rattle.walk.proofs.+walks.Goals as goal

pub call-arity_at-n-requires : goal.call-arity_at-n-requires
call-arity_at-n-requires t c = heres.at-node c.requires

pub call-overflow_add-result : goal.call-overflow_add-result
call-overflow_add-result t c = omega (arith, c.requires.depth, (heres.at-node c.requires).1)

pub call-returns-then-n-eq0 : goal.call-returns-then-n-eq0
unfolding visit_mut_call_expr_f
call-returns-then-n-eq0 t c = laws.did_then _ (ways.on-kids (λ q. split_f (λ i₁. ((walks_f c.args.below).full q i₁) >>= λ j. act (λ c s. when (not s.inlining) (mark (mark_this_sensitive (ident_of (some c)))) s) i₁ >> ret j) (λ n i₁. act_f (λ ts. when c.args.called (write_forest false ts)) n i₁ >> many ((walks_f c.args.below).full q) n i₁)) c.requires c.arity_at-n.ensures (ways.split-none (λ i₁. ((walks_f c.args.below).full (c.args.depth + 1) i₁) >>= λ j. act (λ c s. when (not s.inlining) (mark (mark_this_sensitive (ident_of (some c)))) s) i₁ >> ret j) (λ n i₁. act_f (λ ts. when c.args.called (write_forest false ts)) n i₁ >> many ((walks_f c.args.below).full (c.args.depth + 1)) n i₁) c.arity_at-n.result (c.args.node + 1) c.if-n-eq0.true c.requires.planted)) (ways.act-end (c.args.node + 1) c.store_barrier.ensures)

pub call-overflow_add-depth : goal.call-overflow_add-depth
call-overflow_add-depth t c = omega (arith, c.requires.depth, (heres.at-node c.requires).1)

pub call-overflow_add-node : goal.call-overflow_add-node
call-overflow_add-node t c = omega (arith, c.requires.depth, (heres.at-node c.requires).1)

pub call-full-requires : goal.call-full-requires
call-full-requires t c = (omega (arith, c.decreases), heres.here-one c.if-n-eq0.false (heres.here-kids c.requires c.arity_at-n.ensures))

pub call-returns-in_err-j : goal.call-returns-in_err-j
unfolding visit_mut_call_expr_f
call-returns-in_err-j t c = ways.did-exit c.from_residual.result c.from_residual.ensures.1 (laws.did-stop _ (ways.on-kids (λ q. split_f (λ i₁. ((walks_f c.args.below).full q i₁) >>= λ j. act (λ c s. when (not s.inlining) (mark (mark_this_sensitive (ident_of (some c)))) s) i₁ >> ret j) (λ n i₁. act_f (λ ts. when c.args.called (write_forest false ts)) n i₁ >> many ((walks_f c.args.below).full q) n i₁)) c.requires c.arity_at-n.ensures (ways.split-stop (λ i₁. ((walks_f c.args.below).full (c.args.depth + 1) i₁) >>= λ j. act (λ c s. when (not s.inlining) (mark (mark_this_sensitive (ident_of (some c)))) s) i₁ >> ret j) (λ n i₁. act_f (λ ts. when c.args.called (write_forest false ts)) n i₁ >> many ((walks_f c.args.below).full (c.args.depth + 1)) n i₁) c.arity_at-n.result (c.args.node + 1) c.if-n-eq0.false (laws.did-stop _ c.in_err-j.ensures))))

pub call-overflow_add-node-2 : goal.call-overflow_add-node-2
call-overflow_add-node-2 t c = omega (arith, c.requires.depth, (heres.at-node c.requires).1)

pub call-mark_callee-requires : goal.call-mark_callee-requires
call-mark_callee-requires t c = heres.at-skip (heres.here-still ((sims c.args.below).full (c.args.depth + 1)) (heres.here-one c.if-n-eq0.false (heres.here-kids c.requires c.arity_at-n.ensures)) refl c.in_ok-j.ensures)

pub call-write_args-requires : goal.call-write_args-requires
call-write_args-requires t c = heres.at-trees (heres.here-tree (λ c s. when (not s.inlining) (mark (mark_this_sensitive (ident_of (some c)))) s) (c.args.node + 1) c.mark_callee.ensures (heres.here-next ((sims c.args.below).full (c.args.depth + 1)) (heres.here-kids c.requires c.arity_at-n.ensures) c.if-n-eq0.false c.in_ok-j.ensures))

pub call-returns-in_err-write_args : goal.call-returns-in_err-write_args
unfolding visit_mut_call_expr_f
call-returns-in_err-write_args t c = ways.did-exit c.from_residual-in_err-write_args.result c.from_residual-in_err-write_args.ensures.1 (laws.did-stop _ (ways.on-kids (λ q. split_f (λ i₁. ((walks_f c.args.below).full q i₁) >>= λ j. act (λ c s. when (not s.inlining) (mark (mark_this_sensitive (ident_of (some c)))) s) i₁ >> ret j) (λ n i₁. act_f (λ ts. when c.args.called (write_forest false ts)) n i₁ >> many ((walks_f c.args.below).full q) n i₁)) c.requires c.arity_at-n.ensures (ways.split-then (λ i₁. ((walks_f c.args.below).full (c.args.depth + 1) i₁) >>= λ j. act (λ c s. when (not s.inlining) (mark (mark_this_sensitive (ident_of (some c)))) s) i₁ >> ret j) (λ n i₁. act_f (λ ts. when c.args.called (write_forest false ts)) n i₁ >> many ((walks_f c.args.below).full (c.args.depth + 1)) n i₁) c.arity_at-n.result (c.args.node + 1) c.if-n-eq0.false (laws.did_then _ c.in_ok-j.ensures (ways.act-end c.in_ok-j.j c.mark_callee.ensures)) (laws.act-stop _ c.in_err-write_args.ensures))))

pub call-overflow_add-depth-2 : goal.call-overflow_add-depth-2
call-overflow_add-depth-2 t c = omega (arith, c.requires.depth, (heres.at-node c.requires).1)

pub call-many-requires : goal.call-many-requires
call-many-requires t c = (omega (arith, c.decreases), heres.here-trees (λ ts. when c.args.called (write_forest false ts)) (c.arity_at-n.result - 1) c.in_ok-j.j c.in_ok-write_args.ensures (heres.here-tree (λ c s. when (not s.inlining) (mark (mark_this_sensitive (ident_of (some c)))) s) (c.args.node + 1) c.mark_callee.ensures (heres.here-next ((sims c.args.below).full (c.args.depth + 1)) (heres.here-kids c.requires c.arity_at-n.ensures) c.if-n-eq0.false c.in_ok-j.ensures)))

pub call-returns-in_err-end : goal.call-returns-in_err-end
unfolding visit_mut_call_expr_f
call-returns-in_err-end t c = ways.did-exit c.from_residual-in_err-end.result c.from_residual-in_err-end.ensures.1 (laws.did-stop _ (ways.on-kids (λ q. split_f (λ i₁. ((walks_f c.args.below).full q i₁) >>= λ j. act (λ c s. when (not s.inlining) (mark (mark_this_sensitive (ident_of (some c)))) s) i₁ >> ret j) (λ n i₁. act_f (λ ts. when c.args.called (write_forest false ts)) n i₁ >> many ((walks_f c.args.below).full q) n i₁)) c.requires c.arity_at-n.ensures (ways.split-then (λ i₁. ((walks_f c.args.below).full (c.args.depth + 1) i₁) >>= λ j. act (λ c s. when (not s.inlining) (mark (mark_this_sensitive (ident_of (some c)))) s) i₁ >> ret j) (λ n i₁. act_f (λ ts. when c.args.called (write_forest false ts)) n i₁ >> many ((walks_f c.args.below).full (c.args.depth + 1)) n i₁) c.arity_at-n.result (c.args.node + 1) c.if-n-eq0.false (laws.did_then _ c.in_ok-j.ensures (ways.act-end c.in_ok-j.j c.mark_callee.ensures)) (laws.act-then _ c.in_ok-write_args.ensures c.in_err-end.ensures))))

pub call-returns : goal.call-returns
unfolding visit_mut_call_expr_f
call-returns t c = laws.did_then _ (ways.on-kids (λ q. split_f (λ i₁. ((walks_f c.args.below).full q i₁) >>= λ j. act (λ c s. when (not s.inlining) (mark (mark_this_sensitive (ident_of (some c)))) s) i₁ >> ret j) (λ n i₁. act_f (λ ts. when c.args.called (write_forest false ts)) n i₁ >> many ((walks_f c.args.below).full q) n i₁)) c.requires c.arity_at-n.ensures (ways.split-then (λ i₁. ((walks_f c.args.below).full (c.args.depth + 1) i₁) >>= λ j. act (λ c s. when (not s.inlining) (mark (mark_this_sensitive (ident_of (some c)))) s) i₁ >> ret j) (λ n i₁. act_f (λ ts. when c.args.called (write_forest false ts)) n i₁ >> many ((walks_f c.args.below).full (c.args.depth + 1)) n i₁) c.arity_at-n.result (c.args.node + 1) c.if-n-eq0.false (laws.did_then _ c.in_ok-j.ensures (ways.act-end c.in_ok-j.j c.mark_callee.ensures)) (laws.act-then _ c.in_ok-write_args.ensures c.in_ok-end.ensures))) (ways.act-end c.in_ok-end.end c.store_barrier-2.ensures)

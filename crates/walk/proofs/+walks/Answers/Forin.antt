-- The goals of forin. Assumes nothing.
use Prim.Native.Nat.{suc, ◌+◌, ◌-◌}
use mathlib.Core.Path.{refl}
use mathlib.Core.Bool.{true}
use native.Mathlib.Omega.{arith}
use Rattle.def_tree.specs.Combine.{◌>>=◌, ◌>>◌, ret, act, act_f, split_f, each_but_f, on_kids_f}
use Rattle.def_pass.specs.Scope.{loop as loop_kind}
use Rattle.def_pass.specs.Walk.{set_pat_mode, as_param, write_tree, write_forest, but_last}
use Rattle.laws_flat.specs.WalkF.{walks_f, visit_with_child_f, visit_mut_for_in_stmt_f}
use Rattle.laws_flat.proofs.Sim.{sims}
use Rattle.walk_laws.proofs.Laws as laws
use Rattle.walk_laws.proofs.Heres as heres
use Rattle.walk_laws.proofs.Ways as ways
use Rattle.walk.proofs.+walks.Goals as goal

pub forin-arity_at-n-requires : goal.forin-arity_at-n-requires
forin-arity_at-n-requires t c = heres.at-node (heres.here-turn c.set_pat_mode.ensures c.requires)

pub forin-overflow_add-result : goal.forin-overflow_add-result
forin-overflow_add-result t c = omega (arith, c.requires.depth, (heres.at-node c.requires).1)

pub forin-returns-then-n-eq0 : goal.forin-returns-then-n-eq0
unfolding visit_mut_for_in_stmt_f
forin-returns-then-n-eq0 t c = ways.modify-then (set_pat_mode as_param) (on_kids_f (split_f (λ i₁. ((walks_f c.args.below).full (suc c.args.depth) i₁) >>= λ j. act (write_tree true) i₁ >> ret j) (λ n i₁. act_f (λ ts. write_forest true (but_last ts)) n i₁ >> each_but_f ((walks_f c.args.below).full (suc c.args.depth)) (visit_with_child_f (walks_f c.args.below) (suc c.args.depth) loop_kind) n i₁)) c.args.node) c.set_pat_mode.ensures (ways.on-kids (λ q. split_f (λ i₁. ((walks_f c.args.below).full q i₁) >>= λ j. act (write_tree true) i₁ >> ret j) (λ n i₁. act_f (λ ts. write_forest true (but_last ts)) n i₁ >> each_but_f ((walks_f c.args.below).full q) (visit_with_child_f (walks_f c.args.below) q loop_kind) n i₁)) (heres.here-turn c.set_pat_mode.ensures c.requires) c.arity_at-n.ensures (ways.split-none (λ i₁. ((walks_f c.args.below).full (c.args.depth + 1) i₁) >>= λ j. act (write_tree true) i₁ >> ret j) (λ n i₁. act_f (λ ts. write_forest true (but_last ts)) n i₁ >> each_but_f ((walks_f c.args.below).full (c.args.depth + 1)) (visit_with_child_f (walks_f c.args.below) (c.args.depth + 1) loop_kind) n i₁) c.arity_at-n.result (c.args.node + 1) c.if-n-eq0.true (heres.here-turn c.set_pat_mode.ensures c.requires).planted))

pub forin-overflow_add-depth : goal.forin-overflow_add-depth
forin-overflow_add-depth t c = omega (arith, c.requires.depth, (heres.at-node c.requires).1)

pub forin-overflow_add-node : goal.forin-overflow_add-node
forin-overflow_add-node t c = omega (arith, c.requires.depth, (heres.at-node c.requires).1)

pub forin-full-requires : goal.forin-full-requires
forin-full-requires t c = (omega (arith, c.decreases), heres.here-one c.if-n-eq0.false (heres.here-kids (heres.here-turn c.set_pat_mode.ensures c.requires) c.arity_at-n.ensures))

pub forin-returns-in_err-j : goal.forin-returns-in_err-j
unfolding visit_mut_for_in_stmt_f
forin-returns-in_err-j t c = ways.did-exit c.from_residual.result c.from_residual.ensures.1 (ways.modify-then (set_pat_mode as_param) (on_kids_f (split_f (λ i₁. ((walks_f c.args.below).full (suc c.args.depth) i₁) >>= λ j. act (write_tree true) i₁ >> ret j) (λ n i₁. act_f (λ ts. write_forest true (but_last ts)) n i₁ >> each_but_f ((walks_f c.args.below).full (suc c.args.depth)) (visit_with_child_f (walks_f c.args.below) (suc c.args.depth) loop_kind) n i₁)) c.args.node) c.set_pat_mode.ensures (ways.on-kids (λ q. split_f (λ i₁. ((walks_f c.args.below).full q i₁) >>= λ j. act (write_tree true) i₁ >> ret j) (λ n i₁. act_f (λ ts. write_forest true (but_last ts)) n i₁ >> each_but_f ((walks_f c.args.below).full q) (visit_with_child_f (walks_f c.args.below) q loop_kind) n i₁)) (heres.here-turn c.set_pat_mode.ensures c.requires) c.arity_at-n.ensures (ways.split-stop (λ i₁. ((walks_f c.args.below).full (c.args.depth + 1) i₁) >>= λ j. act (write_tree true) i₁ >> ret j) (λ n i₁. act_f (λ ts. write_forest true (but_last ts)) n i₁ >> each_but_f ((walks_f c.args.below).full (c.args.depth + 1)) (visit_with_child_f (walks_f c.args.below) (c.args.depth + 1) loop_kind) n i₁) c.arity_at-n.result (c.args.node + 1) c.if-n-eq0.false (laws.did-stop _ c.in_err-j.ensures))))

pub forin-overflow_add-node-2 : goal.forin-overflow_add-node-2
forin-overflow_add-node-2 t c = omega (arith, c.requires.depth, (heres.at-node c.requires).1)

pub forin-write_tree-requires : goal.forin-write_tree-requires
forin-write_tree-requires t c = heres.at-skip (heres.here-still ((sims c.args.below).full (c.args.depth + 1)) (heres.here-one c.if-n-eq0.false (heres.here-kids (heres.here-turn c.set_pat_mode.ensures c.requires) c.arity_at-n.ensures)) refl c.in_ok-j.ensures)

pub forin-returns-in_err-write_tree : goal.forin-returns-in_err-write_tree
unfolding visit_mut_for_in_stmt_f
forin-returns-in_err-write_tree t c = ways.did-exit c.from_residual-in_err-write_tree.result c.from_residual-in_err-write_tree.ensures.1 (ways.modify-then (set_pat_mode as_param) (on_kids_f (split_f (λ i₁. ((walks_f c.args.below).full (suc c.args.depth) i₁) >>= λ j. act (write_tree true) i₁ >> ret j) (λ n i₁. act_f (λ ts. write_forest true (but_last ts)) n i₁ >> each_but_f ((walks_f c.args.below).full (suc c.args.depth)) (visit_with_child_f (walks_f c.args.below) (suc c.args.depth) loop_kind) n i₁)) c.args.node) c.set_pat_mode.ensures (ways.on-kids (λ q. split_f (λ i₁. ((walks_f c.args.below).full q i₁) >>= λ j. act (write_tree true) i₁ >> ret j) (λ n i₁. act_f (λ ts. write_forest true (but_last ts)) n i₁ >> each_but_f ((walks_f c.args.below).full q) (visit_with_child_f (walks_f c.args.below) q loop_kind) n i₁)) (heres.here-turn c.set_pat_mode.ensures c.requires) c.arity_at-n.ensures (ways.split-stop (λ i₁. ((walks_f c.args.below).full (c.args.depth + 1) i₁) >>= λ j. act (write_tree true) i₁ >> ret j) (λ n i₁. act_f (λ ts. write_forest true (but_last ts)) n i₁ >> each_but_f ((walks_f c.args.below).full (c.args.depth + 1)) (visit_with_child_f (walks_f c.args.below) (c.args.depth + 1) loop_kind) n i₁) c.arity_at-n.result (c.args.node + 1) c.if-n-eq0.false (laws.did_then _ c.in_ok-j.ensures (laws.act-stop _ c.in_err-write_tree.ensures)))))

pub forin-write_but_last-requires : goal.forin-write_but_last-requires
forin-write_but_last-requires t c = heres.at-trees (heres.here-tree (write_tree true) (c.args.node + 1) c.in_ok-write_tree.ensures (heres.here-next ((sims c.args.below).full (c.args.depth + 1)) (heres.here-kids (heres.here-turn c.set_pat_mode.ensures c.requires) c.arity_at-n.ensures) c.if-n-eq0.false c.in_ok-j.ensures))

pub forin-returns-in_err-write_but_last : goal.forin-returns-in_err-write_but_last
unfolding visit_mut_for_in_stmt_f
forin-returns-in_err-write_but_last t c = ways.did-exit c.from_residual-in_err-write_but_last.result c.from_residual-in_err-write_but_last.ensures.1 (ways.modify-then (set_pat_mode as_param) (on_kids_f (split_f (λ i₁. ((walks_f c.args.below).full (suc c.args.depth) i₁) >>= λ j. act (write_tree true) i₁ >> ret j) (λ n i₁. act_f (λ ts. write_forest true (but_last ts)) n i₁ >> each_but_f ((walks_f c.args.below).full (suc c.args.depth)) (visit_with_child_f (walks_f c.args.below) (suc c.args.depth) loop_kind) n i₁)) c.args.node) c.set_pat_mode.ensures (ways.on-kids (λ q. split_f (λ i₁. ((walks_f c.args.below).full q i₁) >>= λ j. act (write_tree true) i₁ >> ret j) (λ n i₁. act_f (λ ts. write_forest true (but_last ts)) n i₁ >> each_but_f ((walks_f c.args.below).full q) (visit_with_child_f (walks_f c.args.below) q loop_kind) n i₁)) (heres.here-turn c.set_pat_mode.ensures c.requires) c.arity_at-n.ensures (ways.split-then (λ i₁. ((walks_f c.args.below).full (c.args.depth + 1) i₁) >>= λ j. act (write_tree true) i₁ >> ret j) (λ n i₁. act_f (λ ts. write_forest true (but_last ts)) n i₁ >> each_but_f ((walks_f c.args.below).full (c.args.depth + 1)) (visit_with_child_f (walks_f c.args.below) (c.args.depth + 1) loop_kind) n i₁) c.arity_at-n.result (c.args.node + 1) c.if-n-eq0.false (laws.did_then _ c.in_ok-j.ensures (ways.act-end c.in_ok-j.j c.in_ok-write_tree.ensures)) (laws.act-stop _ c.in_err-write_but_last.ensures))))

pub forin-overflow_add-depth-2 : goal.forin-overflow_add-depth-2
forin-overflow_add-depth-2 t c = omega (arith, c.requires.depth, (heres.at-node c.requires).1)

pub forin-loops-requires : goal.forin-loops-requires
forin-loops-requires t c = (omega (arith, c.decreases), heres.here-trees (λ ts. write_forest true (but_last ts)) (c.arity_at-n.result - 1) c.in_ok-j.j c.in_ok-write_but_last.ensures (heres.here-tree (write_tree true) (c.args.node + 1) c.in_ok-write_tree.ensures (heres.here-next ((sims c.args.below).full (c.args.depth + 1)) (heres.here-kids (heres.here-turn c.set_pat_mode.ensures c.requires) c.arity_at-n.ensures) c.if-n-eq0.false c.in_ok-j.ensures)))

pub forin-returns : goal.forin-returns
unfolding visit_mut_for_in_stmt_f
forin-returns t c = ways.modify-then (set_pat_mode as_param) (on_kids_f (split_f (λ i₁. ((walks_f c.args.below).full (suc c.args.depth) i₁) >>= λ j. act (write_tree true) i₁ >> ret j) (λ n i₁. act_f (λ ts. write_forest true (but_last ts)) n i₁ >> each_but_f ((walks_f c.args.below).full (suc c.args.depth)) (visit_with_child_f (walks_f c.args.below) (suc c.args.depth) loop_kind) n i₁)) c.args.node) c.set_pat_mode.ensures (ways.on-kids (λ q. split_f (λ i₁. ((walks_f c.args.below).full q i₁) >>= λ j. act (write_tree true) i₁ >> ret j) (λ n i₁. act_f (λ ts. write_forest true (but_last ts)) n i₁ >> each_but_f ((walks_f c.args.below).full q) (visit_with_child_f (walks_f c.args.below) q loop_kind) n i₁)) (heres.here-turn c.set_pat_mode.ensures c.requires) c.arity_at-n.ensures (ways.split-then (λ i₁. ((walks_f c.args.below).full (c.args.depth + 1) i₁) >>= λ j. act (write_tree true) i₁ >> ret j) (λ n i₁. act_f (λ ts. write_forest true (but_last ts)) n i₁ >> each_but_f ((walks_f c.args.below).full (c.args.depth + 1)) (visit_with_child_f (walks_f c.args.below) (c.args.depth + 1) loop_kind) n i₁) c.arity_at-n.result (c.args.node + 1) c.if-n-eq0.false (laws.did_then _ c.in_ok-j.ensures (ways.act-end c.in_ok-j.j c.in_ok-write_tree.ensures)) (laws.act-then _ c.in_ok-write_but_last.ensures c.loops.ensures)))

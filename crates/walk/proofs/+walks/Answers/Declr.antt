-- The goals of declr. Assumes nothing.
use Prim.Native.Nat.{◌+◌}
use mathlib.Core.Path.{sym, ◌∙◌}
use native.Mathlib.Omega.{arith}
use Rattle.def_tree.specs.Combine.{tree_at}
use Rattle.def_tree.proofs.Sims.{sim-each, sim-skip, sim-split}
use Rattle.words_state.specs.State.{abs, rest}
use Rattle.laws_flat.specs.WalkF.{walks_f}
use Rattle.laws_flat.proofs.Sim.{sims, sim-name}
use Rattle.walk_laws.proofs.Heres as heres
use Rattle.walk_laws.proofs.Ways as ways
use Rattle.walk_laws.proofs.Declrs as declrs
use Rattle.walk.proofs.+walks.Goals as goal

pub declr-arity_at-n-requires : goal.declr-arity_at-n-requires
declr-arity_at-n-requires t c = heres.at-node c.requires

pub declr-overflow_add-depth : goal.declr-overflow_add-depth
declr-overflow_add-depth t c = omega (arith, c.requires.depth, (heres.at-node c.requires).1)

pub declr-overflow_add-node : goal.declr-overflow_add-node
declr-overflow_add-node t c = omega (arith, c.requires.depth, (heres.at-node c.requires).1)

pub declr-tail-requires : goal.declr-tail-requires
declr-tail-requires t c = (omega (arith, c.decreases), (heres.here-kids c.requires c.arity_at-n.ensures))

pub declr-returns-in_err-tail : goal.declr-returns-in_err-tail
declr-returns-in_err-tail t c = ways.did-exit c.from_residual.result c.from_residual.ensures.1 (declrs.declr-stop (walks_f c.args.below) c.requires c.arity_at-n.ensures c.in_err-tail.ensures)

pub declr-overflow_add-node-2 : goal.declr-overflow_add-node-2
declr-overflow_add-node-2 t c = omega (arith, c.requires.depth, (heres.at-node c.requires).1)

pub declr-nameless-requires : goal.declr-nameless-requires
declr-nameless-requires t c = heres.here-flat (heres.here-turn c.set_pat_mode.ensures (heres.here-again (sim-split sim-skip (sim-each ((sims c.args.below).full (c.args.depth + 1)))) (heres.here-kids c.requires c.arity_at-n.ensures) c.in_ok-tail.ensures))

pub declr-name-requires : goal.declr-name-requires
declr-name-requires t c = (omega (arith, c.decreases), (declrs.kids-again (sim-split sim-skip (sim-each ((sims c.args.below).full (c.args.depth + 1)))) c.requires c.arity_at-n.ensures c.in_ok-tail.ensures c.set_pat_mode.ensures))

pub declr-returns-then-nameless : goal.declr-returns-then-nameless
declr-returns-then-nameless t c = declrs.declr-then (walks_f c.args.below) c.requires c.arity_at-n.ensures c.in_ok-tail.ensures c.set_pat_mode.ensures (declrs.end_none (walks_f c.args.below) c.args.depth (sim-name (sims c.args.below) c.args.depth) (declrs.kids-again (sim-split sim-skip (sim-each ((sims c.args.below).full (c.args.depth + 1)))) c.requires c.arity_at-n.ensures c.in_ok-tail.ensures c.set_pat_mode.ensures).0 (declrs.kids-again (sim-split sim-skip (sim-each ((sims c.args.below).full (c.args.depth + 1)))) c.requires c.arity_at-n.ensures c.in_ok-tail.ensures c.set_pat_mode.ensures).1 (rest c.set_pat_mode.new.w).inlining (rest c.set_pat_mode.new.w).var_decl_kind (declrs.headed-yes c.set_pat_mode.new.w c.arity_at-n.result (c.args.node + 1) c.nameless.result c.nameless.ensures c.if-nameless.true) c.name.ensures)

pub declr-init-requires : goal.declr-init-requires
declr-init-requires t c = (omega (arith, c.decreases), ((declrs.kids-again (sim-split sim-skip (sim-each ((sims c.args.below).full (c.args.depth + 1)))) c.requires c.arity_at-n.ensures c.in_ok-tail.ensures c.set_pat_mode.ensures).0, (declrs.kids-again (sim-split sim-skip (sim-each ((sims c.args.below).full (c.args.depth + 1)))) c.requires c.arity_at-n.ensures c.in_ok-tail.ensures c.set_pat_mode.ensures).1, (declrs.headed-no c.set_pat_mode.new.w c.arity_at-n.result (c.args.node + 1) c.nameless.result c.nameless.ensures c.if-nameless.false).1))

pub declr-returns-then-inlining : goal.declr-returns-then-inlining
declr-returns-then-inlining t c = declrs.declr-then (walks_f c.args.below) c.requires c.arity_at-n.ensures c.in_ok-tail.ensures c.set_pat_mode.ensures (declrs.end-inlining (walks_f c.args.below) c.args.depth (sim-name (sims c.args.below) c.args.depth) (declrs.kids-again (sim-split sim-skip (sim-each ((sims c.args.below).full (c.args.depth + 1)))) c.requires c.arity_at-n.ensures c.in_ok-tail.ensures c.set_pat_mode.ensures).0 (declrs.kids-again (sim-split sim-skip (sim-each ((sims c.args.below).full (c.args.depth + 1)))) c.requires c.arity_at-n.ensures c.in_ok-tail.ensures c.set_pat_mode.ensures).1 (tree_at (abs c.set_pat_mode.new.w) (c.args.node + 1)) (rest c.set_pat_mode.new.w).var_decl_kind (declrs.headed-no c.set_pat_mode.new.w c.arity_at-n.result (c.args.node + 1) c.nameless.result c.nameless.ensures c.if-nameless.false).0 (sym c.inlining.ensures ∙ c.if-inlining.true) c.init.ensures)

pub declr-overflow_add-node-3 : goal.declr-overflow_add-node-3
declr-overflow_add-node-3 t c = omega (arith, c.requires.depth, (heres.at-node c.requires).1)

pub declr-name_at-bound-requires : goal.declr-name_at-bound-requires
declr-name_at-bound-requires t c = declrs.at_name (heres.here-turn c.set_pat_mode.ensures (heres.here-again (sim-split sim-skip (sim-each ((sims c.args.below).full (c.args.depth + 1)))) (heres.here-kids c.requires c.arity_at-n.ensures) c.in_ok-tail.ensures)) (declrs.headed-no c.set_pat_mode.new.w c.arity_at-n.result (c.args.node + 1) c.nameless.result c.nameless.ensures c.if-nameless.false).1

pub declr-overflow_add-node-4 : goal.declr-overflow_add-node-4
declr-overflow_add-node-4 t c = omega (arith, c.requires.depth, (heres.at-node c.requires).1)

pub declr-over-requires : goal.declr-over-requires
declr-over-requires t c = heres.at-trees (heres.here-turn c.set_pat_mode.ensures (heres.here-again (sim-split sim-skip (sim-each ((sims c.args.below).full (c.args.depth + 1)))) (heres.here-kids c.requires c.arity_at-n.ensures) c.in_ok-tail.ensures))

pub declr-skip-requires : goal.declr-skip-requires
declr-skip-requires t c = heres.at-skip (declrs.over-here (walks_f c.args.below) c.args.depth (sim-name (sims c.args.below) c.args.depth) (declrs.kids-again (sim-split sim-skip (sim-each ((sims c.args.below).full (c.args.depth + 1)))) c.requires c.arity_at-n.ensures c.in_ok-tail.ensures c.set_pat_mode.ensures).0 (declrs.kids-again (sim-split sim-skip (sim-each ((sims c.args.below).full (c.args.depth + 1)))) c.requires c.arity_at-n.ensures c.in_ok-tail.ensures c.set_pat_mode.ensures).1 (tree_at (abs c.set_pat_mode.new.w) (c.args.node + 1)) (rest c.set_pat_mode.new.w).var_decl_kind (declrs.headed-no c.set_pat_mode.new.w c.arity_at-n.result (c.args.node + 1) c.nameless.result c.nameless.ensures c.if-nameless.false).0 (sym c.inlining.ensures ∙ c.if-inlining.false) c.name_at-bound.result.form (declrs.name-form (heres.here-turn c.set_pat_mode.ensures (heres.here-again (sim-split sim-skip (sim-each ((sims c.args.below).full (c.args.depth + 1)))) (heres.here-kids c.requires c.arity_at-n.ensures) c.in_ok-tail.ensures)) (declrs.headed-no c.set_pat_mode.new.w c.arity_at-n.result (c.args.node + 1) c.nameless.result c.nameless.ensures c.if-nameless.false).1 c.name_at-bound.ensures.1) c.name_at-bound.result.ident (declrs.name-num (heres.here-turn c.set_pat_mode.ensures (heres.here-again (sim-split sim-skip (sim-each ((sims c.args.below).full (c.args.depth + 1)))) (heres.here-kids c.requires c.arity_at-n.ensures) c.in_ok-tail.ensures)) (declrs.headed-no c.set_pat_mode.new.w c.arity_at-n.result (c.args.node + 1) c.nameless.result c.nameless.ensures c.if-nameless.false).1 c.name_at-bound.ensures.0) c.in_ok-gone.ensures.did).0

pub declr-returns-then-gone : goal.declr-returns-then-gone
declr-returns-then-gone t c = declrs.declr-then (walks_f c.args.below) c.requires c.arity_at-n.ensures c.in_ok-tail.ensures c.set_pat_mode.ensures (declrs.over_yes (walks_f c.args.below) c.args.depth (sim-name (sims c.args.below) c.args.depth) (declrs.kids-again (sim-split sim-skip (sim-each ((sims c.args.below).full (c.args.depth + 1)))) c.requires c.arity_at-n.ensures c.in_ok-tail.ensures c.set_pat_mode.ensures).0 (declrs.kids-again (sim-split sim-skip (sim-each ((sims c.args.below).full (c.args.depth + 1)))) c.requires c.arity_at-n.ensures c.in_ok-tail.ensures c.set_pat_mode.ensures).1 (tree_at (abs c.set_pat_mode.new.w) (c.args.node + 1)) (rest c.set_pat_mode.new.w).var_decl_kind (declrs.headed-no c.set_pat_mode.new.w c.arity_at-n.result (c.args.node + 1) c.nameless.result c.nameless.ensures c.if-nameless.false).0 (sym c.inlining.ensures ∙ c.if-inlining.false) c.name_at-bound.result.form (declrs.name-form (heres.here-turn c.set_pat_mode.ensures (heres.here-again (sim-split sim-skip (sim-each ((sims c.args.below).full (c.args.depth + 1)))) (heres.here-kids c.requires c.arity_at-n.ensures) c.in_ok-tail.ensures)) (declrs.headed-no c.set_pat_mode.new.w c.arity_at-n.result (c.args.node + 1) c.nameless.result c.nameless.ensures c.if-nameless.false).1 c.name_at-bound.ensures.1) c.name_at-bound.result.ident (declrs.name-num (heres.here-turn c.set_pat_mode.ensures (heres.here-again (sim-split sim-skip (sim-each ((sims c.args.below).full (c.args.depth + 1)))) (heres.here-kids c.requires c.arity_at-n.ensures) c.in_ok-tail.ensures)) (declrs.headed-no c.set_pat_mode.new.w c.arity_at-n.result (c.args.node + 1) c.nameless.result c.nameless.ensures c.if-nameless.false).1 c.name_at-bound.ensures.0) c.in_ok-gone.ensures.did c.if-gone.true c.skip.ensures.0)

pub declr-name-requires-2 : goal.declr-name-requires-2
declr-name-requires-2 t c = (omega (arith, c.decreases), declrs.over-here (walks_f c.args.below) c.args.depth (sim-name (sims c.args.below) c.args.depth) (declrs.kids-again (sim-split sim-skip (sim-each ((sims c.args.below).full (c.args.depth + 1)))) c.requires c.arity_at-n.ensures c.in_ok-tail.ensures c.set_pat_mode.ensures).0 (declrs.kids-again (sim-split sim-skip (sim-each ((sims c.args.below).full (c.args.depth + 1)))) c.requires c.arity_at-n.ensures c.in_ok-tail.ensures c.set_pat_mode.ensures).1 (tree_at (abs c.set_pat_mode.new.w) (c.args.node + 1)) (rest c.set_pat_mode.new.w).var_decl_kind (declrs.headed-no c.set_pat_mode.new.w c.arity_at-n.result (c.args.node + 1) c.nameless.result c.nameless.ensures c.if-nameless.false).0 (sym c.inlining.ensures ∙ c.if-inlining.false) c.name_at-bound.result.form (declrs.name-form (heres.here-turn c.set_pat_mode.ensures (heres.here-again (sim-split sim-skip (sim-each ((sims c.args.below).full (c.args.depth + 1)))) (heres.here-kids c.requires c.arity_at-n.ensures) c.in_ok-tail.ensures)) (declrs.headed-no c.set_pat_mode.new.w c.arity_at-n.result (c.args.node + 1) c.nameless.result c.nameless.ensures c.if-nameless.false).1 c.name_at-bound.ensures.1) c.name_at-bound.result.ident (declrs.name-num (heres.here-turn c.set_pat_mode.ensures (heres.here-again (sim-split sim-skip (sim-each ((sims c.args.below).full (c.args.depth + 1)))) (heres.here-kids c.requires c.arity_at-n.ensures) c.in_ok-tail.ensures)) (declrs.headed-no c.set_pat_mode.new.w c.arity_at-n.result (c.args.node + 1) c.nameless.result c.nameless.ensures c.if-nameless.false).1 c.name_at-bound.ensures.0) c.in_ok-gone.ensures.did)

pub declr-returns : goal.declr-returns
declr-returns t c = declrs.declr-then (walks_f c.args.below) c.requires c.arity_at-n.ensures c.in_ok-tail.ensures c.set_pat_mode.ensures (declrs.over_no (walks_f c.args.below) c.args.depth (sim-name (sims c.args.below) c.args.depth) (declrs.kids-again (sim-split sim-skip (sim-each ((sims c.args.below).full (c.args.depth + 1)))) c.requires c.arity_at-n.ensures c.in_ok-tail.ensures c.set_pat_mode.ensures).0 (declrs.kids-again (sim-split sim-skip (sim-each ((sims c.args.below).full (c.args.depth + 1)))) c.requires c.arity_at-n.ensures c.in_ok-tail.ensures c.set_pat_mode.ensures).1 (tree_at (abs c.set_pat_mode.new.w) (c.args.node + 1)) (rest c.set_pat_mode.new.w).var_decl_kind (declrs.headed-no c.set_pat_mode.new.w c.arity_at-n.result (c.args.node + 1) c.nameless.result c.nameless.ensures c.if-nameless.false).0 (sym c.inlining.ensures ∙ c.if-inlining.false) c.name_at-bound.result.form (declrs.name-form (heres.here-turn c.set_pat_mode.ensures (heres.here-again (sim-split sim-skip (sim-each ((sims c.args.below).full (c.args.depth + 1)))) (heres.here-kids c.requires c.arity_at-n.ensures) c.in_ok-tail.ensures)) (declrs.headed-no c.set_pat_mode.new.w c.arity_at-n.result (c.args.node + 1) c.nameless.result c.nameless.ensures c.if-nameless.false).1 c.name_at-bound.ensures.1) c.name_at-bound.result.ident (declrs.name-num (heres.here-turn c.set_pat_mode.ensures (heres.here-again (sim-split sim-skip (sim-each ((sims c.args.below).full (c.args.depth + 1)))) (heres.here-kids c.requires c.arity_at-n.ensures) c.in_ok-tail.ensures)) (declrs.headed-no c.set_pat_mode.new.w c.arity_at-n.result (c.args.node + 1) c.nameless.result c.nameless.ensures c.if-nameless.false).1 c.name_at-bound.ensures.0) c.in_ok-gone.ensures.did c.if-gone.false c.name-2.ensures)

pub declr-returns-in_err-gone : goal.declr-returns-in_err-gone
declr-returns-in_err-gone t c = ways.did-exit c.from_residual-in_err-gone.result c.from_residual-in_err-gone.ensures.1 (declrs.declr-then (walks_f c.args.below) c.requires c.arity_at-n.ensures c.in_ok-tail.ensures c.set_pat_mode.ensures (declrs.over-stop (walks_f c.args.below) c.args.depth (sim-name (sims c.args.below) c.args.depth) (declrs.kids-again (sim-split sim-skip (sim-each ((sims c.args.below).full (c.args.depth + 1)))) c.requires c.arity_at-n.ensures c.in_ok-tail.ensures c.set_pat_mode.ensures).0 (declrs.kids-again (sim-split sim-skip (sim-each ((sims c.args.below).full (c.args.depth + 1)))) c.requires c.arity_at-n.ensures c.in_ok-tail.ensures c.set_pat_mode.ensures).1 (tree_at (abs c.set_pat_mode.new.w) (c.args.node + 1)) (rest c.set_pat_mode.new.w).var_decl_kind (declrs.headed-no c.set_pat_mode.new.w c.arity_at-n.result (c.args.node + 1) c.nameless.result c.nameless.ensures c.if-nameless.false).0 (sym c.inlining.ensures ∙ c.if-inlining.false) c.name_at-bound.result.form (declrs.name-form (heres.here-turn c.set_pat_mode.ensures (heres.here-again (sim-split sim-skip (sim-each ((sims c.args.below).full (c.args.depth + 1)))) (heres.here-kids c.requires c.arity_at-n.ensures) c.in_ok-tail.ensures)) (declrs.headed-no c.set_pat_mode.new.w c.arity_at-n.result (c.args.node + 1) c.nameless.result c.nameless.ensures c.if-nameless.false).1 c.name_at-bound.ensures.1) c.name_at-bound.result.ident (declrs.name-num (heres.here-turn c.set_pat_mode.ensures (heres.here-again (sim-split sim-skip (sim-each ((sims c.args.below).full (c.args.depth + 1)))) (heres.here-kids c.requires c.arity_at-n.ensures) c.in_ok-tail.ensures)) (declrs.headed-no c.set_pat_mode.new.w c.arity_at-n.result (c.args.node + 1) c.nameless.result c.nameless.ensures c.if-nameless.false).1 c.name_at-bound.ensures.0) c.in_err-gone.ensures.did))

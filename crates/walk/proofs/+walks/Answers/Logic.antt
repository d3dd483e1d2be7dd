-- The goals of logic. Assumes nothing.
use Prim.Native.Nat.{◌+◌}
use mathlib.Core.Path.{refl, ap, ◌∙◌}
use native.Mathlib.Omega.{arith}
use lib.Dec.{eqb}
use Rattle.def_file.specs.Named.{kind_of}
use Rattle.def_tree.specs.Combine.{skip, many, split_f, node_at}
use Rattle.def_tree.proofs.Sims.{sim-skip}
use Rattle.words_state.specs.State.{abs}
use Rattle.laws_flat.specs.WalkF.{walks_f, in_cond_f, logical_f}
use Rattle.walk_laws.proofs.Heres as heres
use Rattle.walk_laws.proofs.Ways as ways
use Rattle.walk.proofs.+walks.Goals as goal

pub logic-kind_at-requires : goal.logic-kind_at-requires
logic-kind_at-requires t c = heres.at-node c.requires

pub logic-skip-requires : goal.logic-skip-requires
logic-skip-requires t c = heres.at-skip c.requires

pub logic-returns-in_default : goal.logic-returns-in_default
unfolding logical_f
logic-returns-in_default t c = ways.iff-no _ _ (ways.first-no _ (ways.kind-no c.requires 32 refl (λ e. c.in_default.not-Bin (c.kind_at.ensures.0 ∙ ap kind_of e)))) (ways.did-skip c.args.node c.requires.planted c.skip.ensures.0)

pub logic-form_at-f-requires : goal.logic-form_at-f-requires
logic-form_at-f-requires t c = heres.at-node c.requires

pub logic-skip-requires-then-f-ge-PAST_LOGICAL : goal.logic-skip-requires-then-f-ge-PAST_LOGICAL
logic-skip-requires-then-f-ge-PAST_LOGICAL t c = heres.at-skip c.requires

pub logic-returns-then-f-ge-PAST_LOGICAL : goal.logic-returns-then-f-ge-PAST_LOGICAL
unfolding logical_f
logic-returns-then-f-ge-PAST_LOGICAL t c = ways.iff-no _ _ (ways.second-no (eqb (node_at (abs c.args.w.now) c.args.node).kind 32) (ways.form-high c.requires c.form_at-f.ensures c.if-f-ge-PAST_LOGICAL.true)) (ways.did-skip c.args.node c.requires.planted c.skip-then-f-ge-PAST_LOGICAL.ensures.0)

pub logic-arity_at-n-requires : goal.logic-arity_at-n-requires
logic-arity_at-n-requires t c = heres.at-node c.requires

pub logic-overflow_add-result : goal.logic-overflow_add-result
logic-overflow_add-result t c = omega (arith, c.requires.depth, (heres.at-node c.requires).1)

pub logic-returns-then-n-eq0 : goal.logic-returns-then-n-eq0
unfolding logical_f
logic-returns-then-n-eq0 t c = ways.iff-yes _ _ (ways.both_yes (ways.kind-yes c.requires refl (rw c.in-Bin.is at c.kind_at.ensures.1)) (ways.form-low c.requires c.form_at-f.ensures c.if-f-ge-PAST_LOGICAL.false)) (ways.on-kids (λ q. split_f skip (many (λ r. in_cond_f ((walks_f c.args.below).bare q r)))) c.requires c.arity_at-n.ensures (ways.split-none skip (many (λ r. in_cond_f ((walks_f c.args.below).bare (c.args.depth + 1) r))) c.arity_at-n.result (c.args.node + 1) c.if-n-eq0.true c.requires.planted))

pub logic-overflow_add-node : goal.logic-overflow_add-node
logic-overflow_add-node t c = omega (arith, c.requires.depth, (heres.at-node c.requires).1)

pub logic-skip-j-requires : goal.logic-skip-j-requires
logic-skip-j-requires t c = heres.at-skip (heres.here-one c.if-n-eq0.false (heres.here-kids c.requires c.arity_at-n.ensures))

pub logic-overflow_add-depth : goal.logic-overflow_add-depth
logic-overflow_add-depth t c = omega (arith, c.requires.depth, (heres.at-node c.requires).1)

pub logic-conds-requires : goal.logic-conds-requires
logic-conds-requires t c = (omega (arith, c.decreases), heres.here-next sim-skip (heres.here-kids c.requires c.arity_at-n.ensures) c.if-n-eq0.false (ways.did-skip (c.args.node + 1) c.requires.planted c.skip-j.ensures.0))

pub logic-returns : goal.logic-returns
unfolding logical_f
logic-returns t c = ways.iff-yes _ _ (ways.both_yes (ways.kind-yes c.requires refl (rw c.in-Bin.is at c.kind_at.ensures.1)) (ways.form-low c.requires c.form_at-f.ensures c.if-f-ge-PAST_LOGICAL.false)) (ways.on-kids (λ q. split_f skip (many (λ r. in_cond_f ((walks_f c.args.below).bare q r)))) c.requires c.arity_at-n.ensures (ways.split-then skip (many (λ r. in_cond_f ((walks_f c.args.below).bare (c.args.depth + 1) r))) c.arity_at-n.result (c.args.node + 1) c.if-n-eq0.false (ways.did-skip (c.args.node + 1) c.requires.planted c.skip-j.ensures.0) c.conds.ensures))

-- The goals of items. Assumes nothing.
use Prim.Native.Nat.{◌+◌}
use native.Mathlib.Omega.{arith}
use Rattle.def_tree.specs.Combine.{split_f}
use Rattle.laws_flat.specs.WalkF.{walks_f, visit_mut_stmts_f, script_f}
use Rattle.laws_flat.proofs.Sim.{sims}
use Rattle.walk_laws.proofs.Heres as heres
use Rattle.walk_laws.proofs.Ways as ways
use Rattle.walk.proofs.+walks.Goals as goal

pub items-form_at-f-requires : goal.items-form_at-f-requires
items-form_at-f-requires t c = heres.at-node c.requires

pub items-body-requires : goal.items-body-requires
items-body-requires t c = (omega (arith, c.decreases), c.requires)

pub items-returns-then-f-ne-TEST : goal.items-returns-then-f-ne-TEST
unfolding script_f
items-returns-then-f-ne-TEST t c = ways.iff-no _ _ (ways.form-no c.requires 1 c.form_at-f.ensures c.if-f-ne-TEST.true) c.body.ensures

pub items-arity_at-n-requires : goal.items-arity_at-n-requires
items-arity_at-n-requires t c = heres.at-node c.requires

pub items-overflow_add-result : goal.items-overflow_add-result
items-overflow_add-result t c = omega (arith, c.requires.depth, (heres.at-node c.requires).1)

pub items-returns-then-n-eq0 : goal.items-returns-then-n-eq0
items-returns-then-n-eq0 t c = ways.iff-yes _ _ (ways.form-yes c.requires c.form_at-f.ensures c.if-f-ne-TEST.false) (ways.on-kids (λ q. split_f ((walks_f c.args.below).full q) (visit_mut_stmts_f (walks_f c.args.below) q)) c.requires c.arity_at-n.ensures (ways.split-none ((walks_f c.args.below).full (c.args.depth + 1)) (visit_mut_stmts_f (walks_f c.args.below) (c.args.depth + 1)) c.arity_at-n.result (c.args.node + 1) c.if-n-eq0.true c.requires.planted))

pub items-overflow_add-depth : goal.items-overflow_add-depth
items-overflow_add-depth t c = omega (arith, c.requires.depth, (heres.at-node c.requires).1)

pub items-overflow_add-node : goal.items-overflow_add-node
items-overflow_add-node t c = omega (arith, c.requires.depth, (heres.at-node c.requires).1)

pub items-full-requires : goal.items-full-requires
items-full-requires t c = (omega (arith, c.decreases), heres.here-one c.if-n-eq0.false (heres.here-kids c.requires c.arity_at-n.ensures))

pub items-returns-in_err-j : goal.items-returns-in_err-j
items-returns-in_err-j t c = ways.did-exit c.from_residual.result c.from_residual.ensures.1 (ways.iff-yes _ _ (ways.form-yes c.requires c.form_at-f.ensures c.if-f-ne-TEST.false) (ways.on-kids (λ q. split_f ((walks_f c.args.below).full q) (visit_mut_stmts_f (walks_f c.args.below) q)) c.requires c.arity_at-n.ensures (ways.split-stop ((walks_f c.args.below).full (c.args.depth + 1)) (visit_mut_stmts_f (walks_f c.args.below) (c.args.depth + 1)) c.arity_at-n.result (c.args.node + 1) c.if-n-eq0.false c.in_err-j.ensures)))

pub items-overflow_add-depth-2 : goal.items-overflow_add-depth-2
items-overflow_add-depth-2 t c = omega (arith, c.requires.depth, (heres.at-node c.requires).1)

pub items-stmts-requires : goal.items-stmts-requires
items-stmts-requires t c = (omega (arith, c.decreases), heres.here-next ((sims c.args.below).full (c.args.depth + 1)) (heres.here-kids c.requires c.arity_at-n.ensures) c.if-n-eq0.false c.in_ok-j.ensures)

pub items-returns : goal.items-returns
items-returns t c = ways.iff-yes _ _ (ways.form-yes c.requires c.form_at-f.ensures c.if-f-ne-TEST.false) (ways.on-kids (λ q. split_f ((walks_f c.args.below).full q) (visit_mut_stmts_f (walks_f c.args.below) q)) c.requires c.arity_at-n.ensures (ways.split-then ((walks_f c.args.below).full (c.args.depth + 1)) (visit_mut_stmts_f (walks_f c.args.below) (c.args.depth + 1)) c.arity_at-n.result (c.args.node + 1) c.if-n-eq0.false c.in_ok-j.ensures c.stmts.ensures))

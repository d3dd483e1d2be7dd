-- The goals of fors. Assumes nothing.
use mathlib.Core.Bool.{true}
use native.Mathlib.Omega.{arith}
use Rattle.def_tree.specs.Combine.{each_but_f}
use Rattle.def_pass.specs.Tree.{kids}
use Rattle.def_pass.specs.Scope.{loop as loop_kind}
use Rattle.def_pass.specs.Walk.{write_forest, but_last, store_inline_barrier_m}
use Rattle.laws_flat.specs.WalkF.{walks_f, visit_with_child_f, visit_mut_for_stmt_f}
use Rattle.walk_laws.proofs.Laws as laws
use Rattle.walk_laws.proofs.Heres as heres
use Rattle.walk_laws.proofs.Ways as ways
use Rattle.walk.proofs.+walks.Goals as goal

pub fors-write_kids_but_last-requires : goal.fors-write_kids_but_last-requires
fors-write_kids_but_last-requires t c = heres.at-skip c.requires

pub fors-returns-in_err-write_kids_but_last : goal.fors-returns-in_err-write_kids_but_last
unfolding visit_mut_for_stmt_f
fors-returns-in_err-write_kids_but_last t c = ways.did-exit c.from_residual.result c.from_residual.ensures.1 (laws.act-stop _ c.in_err-write_kids_but_last.ensures)

pub fors-form_at-f-requires : goal.fors-form_at-f-requires
fors-form_at-f-requires t c = heres.at-node (heres.here-tree (λ t. write_forest true (but_last (kids t))) c.args.node c.in_ok-write_kids_but_last.ensures c.requires)

pub fors-arity_at-n-requires : goal.fors-arity_at-n-requires
fors-arity_at-n-requires t c = heres.at-node (heres.here-tree (λ t. write_forest true (but_last (kids t))) c.args.node c.in_ok-write_kids_but_last.ensures c.requires)

pub fors-overflow_add-depth : goal.fors-overflow_add-depth
fors-overflow_add-depth t c = omega (arith, c.requires.depth, (heres.at-node c.requires).1)

pub fors-overflow_add-node : goal.fors-overflow_add-node
fors-overflow_add-node t c = omega (arith, c.requires.depth, (heres.at-node c.requires).1)

pub fors-loops-requires : goal.fors-loops-requires
fors-loops-requires t c = (omega (arith, c.decreases), heres.here-kids (heres.here-tree (λ t. write_forest true (but_last (kids t))) c.args.node c.in_ok-write_kids_but_last.ensures c.requires) c.arity_at-n.ensures)

pub fors-returns-in_err-j : goal.fors-returns-in_err-j
unfolding visit_mut_for_stmt_f
fors-returns-in_err-j t c = ways.did-exit c.from_residual-in_err-j.result c.from_residual-in_err-j.ensures.1 (laws.act-then _ c.in_ok-write_kids_but_last.ensures (laws.did-stop _ (ways.on-kids (λ q. each_but_f ((walks_f c.args.below).full q) (visit_with_child_f (walks_f c.args.below) q loop_kind)) (heres.here-tree (λ t. write_forest true (but_last (kids t))) c.args.node c.in_ok-write_kids_but_last.ensures c.requires) c.arity_at-n.ensures c.in_err-j.ensures)))

pub fors-returns-then-f-eq-EMPTY_HEAD : goal.fors-returns-then-f-eq-EMPTY_HEAD
unfolding visit_mut_for_stmt_f
fors-returns-then-f-eq-EMPTY_HEAD t c = laws.act-then _ c.in_ok-write_kids_but_last.ensures (laws.did_then _ (ways.on-kids (λ q. each_but_f ((walks_f c.args.below).full q) (visit_with_child_f (walks_f c.args.below) q loop_kind)) (heres.here-tree (λ t. write_forest true (but_last (kids t))) c.args.node c.in_ok-write_kids_but_last.ensures c.requires) c.arity_at-n.ensures c.in_ok-j.ensures) (ways.act-end c.in_ok-j.j (ways.when-yes store_inline_barrier_m (ways.form-yes (heres.here-tree (λ t. write_forest true (but_last (kids t))) c.args.node c.in_ok-write_kids_but_last.ensures c.requires) c.form_at-f.ensures c.if-f-eq-EMPTY_HEAD.true) c.store_barrier.ensures)))

pub fors-returns-else-f-eq-EMPTY_HEAD : goal.fors-returns-else-f-eq-EMPTY_HEAD
unfolding visit_mut_for_stmt_f
fors-returns-else-f-eq-EMPTY_HEAD t c = laws.act-then _ c.in_ok-write_kids_but_last.ensures (laws.did_then _ (ways.on-kids (λ q. each_but_f ((walks_f c.args.below).full q) (visit_with_child_f (walks_f c.args.below) q loop_kind)) (heres.here-tree (λ t. write_forest true (but_last (kids t))) c.args.node c.in_ok-write_kids_but_last.ensures c.requires) c.arity_at-n.ensures c.in_ok-j.ensures) (ways.when-no store_inline_barrier_m c.in_ok-j.j (ways.form-no (heres.here-tree (λ t. write_forest true (but_last (kids t))) c.args.node c.in_ok-write_kids_but_last.ensures c.requires) 0 c.form_at-f.ensures c.if-f-eq-EMPTY_HEAD.false) c.in_ok-j.ensures.ok.planted))

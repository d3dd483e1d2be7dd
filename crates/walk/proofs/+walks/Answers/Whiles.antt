-- The goals of whiles. Assumes nothing.
use Prim.Native.Nat.{suc}
use mathlib.Core.Bool.{true}
use native.Mathlib.Omega.{arith}
use Rattle.def_tree.specs.Combine.{each_but_f, on_kids_f}
use Rattle.def_pass.specs.Tree.{kids}
use Rattle.def_pass.specs.Scope.{loop as loop_kind}
use Rattle.def_pass.specs.Walk.{write_forest, but_last}
use Rattle.laws_flat.specs.WalkF.{walks_f, visit_with_child_f, visit_mut_while_stmt_f}
use Rattle.walk_laws.proofs.Laws as laws
use Rattle.walk_laws.proofs.Heres as heres
use Rattle.walk_laws.proofs.Ways as ways
use Rattle.walk.proofs.+walks.Goals as goal

pub whiles-write_kids_but_last-requires : goal.whiles-write_kids_but_last-requires
whiles-write_kids_but_last-requires t c = heres.at-skip c.requires

pub whiles-returns-in_err-write_kids_but_last : goal.whiles-returns-in_err-write_kids_but_last
unfolding visit_mut_while_stmt_f
whiles-returns-in_err-write_kids_but_last t c = ways.did-exit c.from_residual.result c.from_residual.ensures.1 (laws.act-stop (λ x. on_kids_f (each_but_f ((walks_f c.args.below).full (suc c.args.depth)) (visit_with_child_f (walks_f c.args.below) (suc c.args.depth) loop_kind)) c.args.node) c.in_err-write_kids_but_last.ensures)

pub whiles-arity_at-n-requires : goal.whiles-arity_at-n-requires
whiles-arity_at-n-requires t c = heres.at-node (heres.here-tree (λ t. write_forest true (but_last (kids t))) c.args.node c.in_ok-write_kids_but_last.ensures c.requires)

pub whiles-overflow_add-depth : goal.whiles-overflow_add-depth
whiles-overflow_add-depth t c = omega (arith, c.requires.depth, (heres.at-node c.requires).1)

pub whiles-overflow_add-node : goal.whiles-overflow_add-node
whiles-overflow_add-node t c = omega (arith, c.requires.depth, (heres.at-node c.requires).1)

pub whiles-loops-requires : goal.whiles-loops-requires
whiles-loops-requires t c = (omega (arith, c.decreases), heres.here-kids (heres.here-tree (λ t. write_forest true (but_last (kids t))) c.args.node c.in_ok-write_kids_but_last.ensures c.requires) c.arity_at-n.ensures)

pub whiles-returns : goal.whiles-returns
unfolding visit_mut_while_stmt_f
whiles-returns t c = laws.act-then (λ x. on_kids_f (each_but_f ((walks_f c.args.below).full (suc c.args.depth)) (visit_with_child_f (walks_f c.args.below) (suc c.args.depth) loop_kind)) c.args.node) c.in_ok-write_kids_but_last.ensures (ways.on-kids (λ q. each_but_f ((walks_f c.args.below).full q) (visit_with_child_f (walks_f c.args.below) q loop_kind)) (heres.here-tree (λ t. write_forest true (but_last (kids t))) c.args.node c.in_ok-write_kids_but_last.ensures c.requires) c.arity_at-n.ensures c.loops.ensures)

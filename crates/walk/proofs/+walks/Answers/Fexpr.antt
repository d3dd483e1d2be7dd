-- The goals of fexpr. Assumes nothing.
use Prim.Native.Nat.{◌+◌}
use mathlib.Core.Bool.{false}
use native.Mathlib.Omega.{arith}
use Rattle.def_tree.specs.Combine.{skip, split_f}
use Rattle.def_tree.proofs.Sims.{sim-skip}
use Rattle.def_pass.specs.Tree.{kids, head_t}
use Rattle.def_pass.specs.Walk.{write_name}
use Rattle.laws_flat.specs.WalkF.{walks_f, visit_mut_function_f, visit_mut_fn_expr_f}
use Rattle.walk_laws.proofs.Laws as laws
use Rattle.walk_laws.proofs.Heres as heres
use Rattle.walk_laws.proofs.Ways as ways
use Rattle.walk.proofs.+walks.Goals as goal

pub fexpr-arity_at-n-requires : goal.fexpr-arity_at-n-requires
fexpr-arity_at-n-requires t c = heres.at-node c.requires

pub fexpr-form_at-f-requires : goal.fexpr-form_at-f-requires
fexpr-form_at-f-requires t c = heres.at-node c.requires

pub fexpr-overflow_add-node : goal.fexpr-overflow_add-node
fexpr-overflow_add-node t c = omega (arith, c.requires.depth, (heres.at-node c.requires).1)

pub fexpr-func-requires : goal.fexpr-func-requires
fexpr-func-requires t c = (omega (arith, c.decreases), ((heres.here-kids c.requires c.arity_at-n.ensures)))

pub fexpr-returns-then-f-ne-NAMED : goal.fexpr-returns-then-f-ne-NAMED
unfolding visit_mut_fn_expr_f
fexpr-returns-then-f-ne-NAMED t c = ways.iff-no _ _ (ways.form-no c.requires 1 c.form_at-f.ensures c.if-f-ne-NAMED.true) (ways.on-kids (λ q. visit_mut_function_f (walks_f c.args.below) c.args.depth false) c.requires c.arity_at-n.ensures c.func.ensures)

pub fexpr-write_name-requires : goal.fexpr-write_name-requires
fexpr-write_name-requires t c = heres.at-skip c.requires

pub fexpr-returns-in_err-write_name : goal.fexpr-returns-in_err-write_name
unfolding visit_mut_fn_expr_f
fexpr-returns-in_err-write_name t c = ways.did-exit c.from_residual.result c.from_residual.ensures.1 (ways.iff-yes _ _ (ways.form-yes c.requires c.form_at-f.ensures c.if-f-ne-NAMED.false) (laws.act-stop _ c.in_err-write_name.ensures))

pub fexpr-overflow_add-result : goal.fexpr-overflow_add-result
fexpr-overflow_add-result t c = omega (arith, c.requires.depth, (heres.at-node c.requires).1)

pub fexpr-returns-then-n-eq0 : goal.fexpr-returns-then-n-eq0
unfolding visit_mut_fn_expr_f
fexpr-returns-then-n-eq0 t c = ways.iff-yes _ _ (ways.form-yes c.requires c.form_at-f.ensures c.if-f-ne-NAMED.false) (laws.act-then _ c.in_ok-write_name.ensures (ways.on-kids (λ q. split_f skip (visit_mut_function_f (walks_f c.args.below) c.args.depth false)) (heres.here-tree (λ t. write_name (head_t (kids t))) c.args.node c.in_ok-write_name.ensures c.requires) (heres.arity-tree (λ t. write_name (head_t (kids t))) c.args.node c.in_ok-write_name.ensures c.requires c.arity_at-n.ensures) (ways.split-none skip (visit_mut_function_f (walks_f c.args.below) c.args.depth false) c.arity_at-n.result (c.args.node + 1) c.if-n-eq0.true (heres.here-tree (λ t. write_name (head_t (kids t))) c.args.node c.in_ok-write_name.ensures c.requires).planted)))

pub fexpr-overflow_add-node-2 : goal.fexpr-overflow_add-node-2
fexpr-overflow_add-node-2 t c = omega (arith, c.requires.depth, (heres.at-node c.requires).1)

pub fexpr-skip-j-requires : goal.fexpr-skip-j-requires
fexpr-skip-j-requires t c = heres.at-skip (heres.here-one c.if-n-eq0.false (heres.here-tree (λ t. write_name (head_t (kids t))) c.args.node c.in_ok-write_name.ensures (heres.here-kids c.requires c.arity_at-n.ensures)))

pub fexpr-func-requires-2 : goal.fexpr-func-requires-2
fexpr-func-requires-2 t c = (omega (arith, c.decreases), (heres.here-next sim-skip (heres.here-tree (λ t. write_name (head_t (kids t))) c.args.node c.in_ok-write_name.ensures (heres.here-kids c.requires c.arity_at-n.ensures)) c.if-n-eq0.false (ways.did-skip (c.args.node + 1) (heres.here-tree (λ t. write_name (head_t (kids t))) c.args.node c.in_ok-write_name.ensures c.requires).planted c.skip-j.ensures.0)))

pub fexpr-returns : goal.fexpr-returns
unfolding visit_mut_fn_expr_f
fexpr-returns t c = ways.iff-yes _ _ (ways.form-yes c.requires c.form_at-f.ensures c.if-f-ne-NAMED.false) (laws.act-then _ c.in_ok-write_name.ensures (ways.on-kids (λ q. split_f skip (visit_mut_function_f (walks_f c.args.below) c.args.depth false)) (heres.here-tree (λ t. write_name (head_t (kids t))) c.args.node c.in_ok-write_name.ensures c.requires) (heres.arity-tree (λ t. write_name (head_t (kids t))) c.args.node c.in_ok-write_name.ensures c.requires c.arity_at-n.ensures) (ways.split-then skip (visit_mut_function_f (walks_f c.args.below) c.args.depth false) c.arity_at-n.result (c.args.node + 1) c.if-n-eq0.false (ways.did-skip (c.args.node + 1) (heres.here-tree (λ t. write_name (head_t (kids t))) c.args.node c.in_ok-write_name.ensures c.requires).planted c.skip-j.ensures.0) c.func-2.ensures)))

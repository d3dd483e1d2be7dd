-- The goals of fdecl. Assumes nothing.
use Prim.Native.Nat.{◌+◌}
use mathlib.Core.Bool.{true}
use native.Mathlib.Omega.{arith}
use Rattle.def_tree.specs.Combine.{skip, split_f}
use Rattle.def_tree.proofs.Sims.{sim-skip}
use Rattle.def_pass.specs.Tree.{kids, head_t}
use Rattle.def_pass.specs.Walk.{declare_name}
use Rattle.laws_flat.specs.WalkF.{walks_f, visit_mut_function_f, visit_mut_fn_decl_f}
use Rattle.walk_laws.proofs.Laws as laws
use Rattle.walk_laws.proofs.Heres as heres
use Rattle.walk_laws.proofs.Ways as ways
use Rattle.walk.proofs.+walks.Goals as goal

pub fdecl-declare_name-requires : goal.fdecl-declare_name-requires
fdecl-declare_name-requires t c = heres.at-skip c.requires

pub fdecl-returns-in_err-declare_name : goal.fdecl-returns-in_err-declare_name
unfolding visit_mut_fn_decl_f
fdecl-returns-in_err-declare_name t c = ways.did-exit c.from_residual.result c.from_residual.ensures.1 (laws.act-stop _ c.in_err-declare_name.ensures.did)

pub fdecl-arity_at-n-requires : goal.fdecl-arity_at-n-requires
fdecl-arity_at-n-requires t c = heres.at-node (heres.here-tree (λ t. declare_name (head_t (kids t))) c.args.node c.in_ok-declare_name.ensures.did c.requires)

pub fdecl-overflow_add-result : goal.fdecl-overflow_add-result
fdecl-overflow_add-result t c = omega (arith, c.requires.depth, (heres.at-node c.requires).1)

pub fdecl-returns-then-n-eq0 : goal.fdecl-returns-then-n-eq0
unfolding visit_mut_fn_decl_f
fdecl-returns-then-n-eq0 t c = laws.act-then _ c.in_ok-declare_name.ensures.did (ways.on-kids (λ q. split_f skip (visit_mut_function_f (walks_f c.args.below) c.args.depth true)) (heres.here-tree (λ t. declare_name (head_t (kids t))) c.args.node c.in_ok-declare_name.ensures.did c.requires) c.arity_at-n.ensures (ways.split-none skip (visit_mut_function_f (walks_f c.args.below) c.args.depth true) c.arity_at-n.result (c.args.node + 1) c.if-n-eq0.true (heres.here-tree (λ t. declare_name (head_t (kids t))) c.args.node c.in_ok-declare_name.ensures.did c.requires).planted))

pub fdecl-overflow_add-node : goal.fdecl-overflow_add-node
fdecl-overflow_add-node t c = omega (arith, c.requires.depth, (heres.at-node c.requires).1)

pub fdecl-skip-j-requires : goal.fdecl-skip-j-requires
fdecl-skip-j-requires t c = heres.at-skip (heres.here-one c.if-n-eq0.false (heres.here-kids (heres.here-tree (λ t. declare_name (head_t (kids t))) c.args.node c.in_ok-declare_name.ensures.did c.requires) c.arity_at-n.ensures))

pub fdecl-func-requires : goal.fdecl-func-requires
fdecl-func-requires t c = (omega (arith, c.decreases), (heres.here-next sim-skip (heres.here-kids (heres.here-tree (λ t. declare_name (head_t (kids t))) c.args.node c.in_ok-declare_name.ensures.did c.requires) c.arity_at-n.ensures) c.if-n-eq0.false (ways.did-skip (c.args.node + 1) (heres.here-tree (λ t. declare_name (head_t (kids t))) c.args.node c.in_ok-declare_name.ensures.did c.requires).planted c.skip-j.ensures.0)))

pub fdecl-returns : goal.fdecl-returns
unfolding visit_mut_fn_decl_f
fdecl-returns t c = laws.act-then _ c.in_ok-declare_name.ensures.did (ways.on-kids (λ q. split_f skip (visit_mut_function_f (walks_f c.args.below) c.args.depth true)) (heres.here-tree (λ t. declare_name (head_t (kids t))) c.args.node c.in_ok-declare_name.ensures.did c.requires) c.arity_at-n.ensures (ways.split-then skip (visit_mut_function_f (walks_f c.args.below) c.args.depth true) c.arity_at-n.result (c.args.node + 1) c.if-n-eq0.false (ways.did-skip (c.args.node + 1) (heres.here-tree (λ t. declare_name (head_t (kids t))) c.args.node c.in_ok-declare_name.ensures.did c.requires).planted c.skip-j.ensures.0) c.func.ensures))

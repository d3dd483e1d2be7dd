-- The goals of func. Assumes nothing.
use Prim.Native.Nat.{suc}
use native.Mathlib.Omega.{arith}
use Rattle.def_tree.specs.Combine.{and_then, on_rest, each_but_f}
use Rattle.def_pass.specs.Scope.{fn as fn_kind}
use Rattle.def_pass.specs.Walk.{opening, modify, set_pat_mode, as_param}
use Rattle.laws_flat.specs.WalkF.{walks_f, visit_mut_function_f}
use Rattle.walk_laws.proofs.Heres as heres
use Rattle.walk_laws.proofs.Ways as ways
use Rattle.walk.proofs.+walks.Goals as goal

pub func-returns-in_err-enter : goal.func-returns-in_err-enter
unfolding visit_mut_function_f
func-returns-in_err-enter t c = ways.did-exit c.from_residual.result c.from_residual.ensures.1 (ways.scope-full (fn_kind c.args.named) (λ st. and_then (on_rest (modify (set_pat_mode as_param)) st) (λ y. each_but_f ((walks_f c.args.below).full (suc c.args.depth)) ((walks_f c.args.below).inner (suc c.args.depth)) c.args.n c.args.node)) c.in_err-enter.ensures.did)

pub func-params-requires : goal.func-params-requires
func-params-requires t c = (omega (arith, c.decreases), heres.here-turn c.set_pat_mode.ensures (heres.here-rest (opening (fn_kind c.args.named)) c.in_ok-enter.ensures.did c.requires))

pub func-returns-in_err-j : goal.func-returns-in_err-j
unfolding visit_mut_function_f
func-returns-in_err-j t c = ways.did-exit c.from_residual-in_err-j.result c.from_residual-in_err-j.ensures.1 (ways.scope-stop (fn_kind c.args.named) (λ st. and_then (on_rest (modify (set_pat_mode as_param)) st) (λ y. each_but_f ((walks_f c.args.below).full (suc c.args.depth)) ((walks_f c.args.below).inner (suc c.args.depth)) c.args.n c.args.node)) c.in_ok-enter.ensures.did (ways.func-in (walks_f c.args.below) c.args.depth c.args.n c.args.node c.set_pat_mode.ensures c.in_err-j.ensures))

pub func-returns : goal.func-returns
unfolding visit_mut_function_f
func-returns t c = ways.scope_then (fn_kind c.args.named) (λ st. and_then (on_rest (modify (set_pat_mode as_param)) st) (λ y. each_but_f ((walks_f c.args.below).full (suc c.args.depth)) ((walks_f c.args.below).inner (suc c.args.depth)) c.args.n c.args.node)) c.in_ok-enter.ensures.did (ways.func-in (walks_f c.args.below) c.args.depth c.args.n c.args.node c.set_pat_mode.ensures c.in_ok-j.ensures) c.save_fields-before.ensures c.leave.ensures

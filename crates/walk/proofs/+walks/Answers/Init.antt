-- The goals of init. Assumes nothing.
use Prim.Native.Nat.{suc, ◌+◌, ◌-◌}
use mathlib.Core.Path.{refl, sym, ap, ◌∙◌}
use Rattle.def_pass.specs.Scope.{is_const}
use native.Mathlib.Omega.{arith}
use Rattle.def_tree.specs.Combine.{tree_at}
use Rattle.def_tree.proofs.Sims.{sim-skip}
use Rattle.words_state.specs.State.{abs, rest}
use Rattle.laws_flat.specs.WalkF.{walks_f}
use Rattle.laws_flat.proofs.Sim.{sims, sim-name}
use Rattle.walk_laws.proofs.Heres as heres
use Rattle.walk_laws.proofs.Ways as ways
use Rattle.walk_laws.proofs.Declrs as declrs
use Rattle.walk.proofs.+walks.Goals as goal

pub init-name-requires : goal.init-name-requires
init-name-requires t c = (omega (arith, c.decreases), (c.requires.0, c.requires.1))

pub init-returns-then-is_const : goal.init-returns-then-is_const
init-returns-then-is_const t c = declrs.end-const (walks_f c.args.below) c.args.depth (sim-name (sims c.args.below) c.args.depth) c.requires.0 c.requires.1 (tree_at (abs c.args.w.now) (c.args.node + 1)) (rest c.args.w.now).var_decl_kind (ap is_const (sym c.var_decl_kind-kind.ensures) ∙ sym c.is_const.ensures ∙ c.if-is_const.true) c.name.ensures

pub init-overflow_add-node : goal.init-overflow_add-node
init-overflow_add-node t c = omega (arith, c.requires.0.depth, (heres.at-node c.requires.0).1)

pub init-name_at-bound-requires : goal.init-name_at-bound-requires
init-name_at-bound-requires t c = declrs.at_name (heres.here-kids c.requires.0 c.requires.1) c.requires.2

pub init-overflow_add-node-2 : goal.init-overflow_add-node-2
init-overflow_add-node-2 t c = omega (arith, c.requires.0.depth, (heres.at-node c.requires.0).1)

pub init-skip-j-requires : goal.init-skip-j-requires
init-skip-j-requires t c = declrs.at_bound (heres.here-kids c.requires.0 c.requires.1) c.requires.2

pub init-stays-requires : goal.init-stays-requires
init-stays-requires t c = heres.at-trees (heres.here-next sim-skip (heres.here-kids c.requires.0 c.requires.1) (λ z. omega (arith, z, c.requires.2.some)) (ways.did-skip (c.args.node + 1) c.requires.0.planted c.skip-j.ensures.0))

pub init-skip-requires : goal.init-skip-requires
init-skip-requires t c = heres.at-skip c.requires.0

pub init-returns-then-stays : goal.init-returns-then-stays
init-returns-then-stays t c = declrs.init-stays (walks_f c.args.below) c.args.depth ((sims c.args.below).full (suc c.args.depth)) c.requires.0 c.requires.1 c.requires.2 c.skip-j.ensures.0 (rest c.args.w.now).var_decl_kind (ap is_const (sym c.var_decl_kind-kind.ensures) ∙ sym c.is_const.ensures ∙ c.if-is_const.false) c.name_at-bound.result.form c.name_at-bound.ensures.1 c.name_at-bound.result.ident c.name_at-bound.ensures.0 c.stays.ensures c.if-stays.true c.skip.ensures.0

pub init-declr_after-requires : goal.init-declr_after-requires
init-declr_after-requires t c = (c.requires.0.planted, declrs.spot-none (walks_f c.args.below) c.args.depth ((sims c.args.below).full (suc c.args.depth)) c.requires.0 c.requires.1 c.requires.2 c.skip-j.ensures.0 c.if-n-eq1.true)

pub init-returns-then-n-eq1 : goal.init-returns-then-n-eq1
init-returns-then-n-eq1 t c = declrs.init-none (walks_f c.args.below) c.args.depth ((sims c.args.below).full (suc c.args.depth)) c.requires.0 c.requires.1 c.requires.2 c.skip-j.ensures.0 (rest c.args.w.now).var_decl_kind (ap is_const (sym c.var_decl_kind-kind.ensures) ∙ sym c.is_const.ensures ∙ c.if-is_const.false) c.name_at-bound.result.form c.name_at-bound.ensures.1 c.name_at-bound.result.ident c.name_at-bound.ensures.0 c.stays.ensures c.if-stays.false c.if-n-eq1.true (declrs.after-kind c.args.node c.name_at-bound.result.form c.name_at-bound.result.ident 0 c.skip-j.result c.skip-j.result c.var_decl_kind-kind.ensures c.declr_after.ensures)

pub init-overflow_add-depth : goal.init-overflow_add-depth
init-overflow_add-depth t c = omega (arith, c.requires.0.depth, (heres.at-node c.requires.0).1)

pub init-full-requires : goal.init-full-requires
init-full-requires t c = (omega (arith, c.decreases), (heres.here-one (λ z. omega (arith, z, c.if-n-eq1.false, c.requires.2.some)) (heres.here-next sim-skip (heres.here-kids c.requires.0 c.requires.1) (λ z. omega (arith, z, c.requires.2.some)) (ways.did-skip (c.args.node + 1) c.requires.0.planted c.skip-j.ensures.0))))

pub init-returns-in_err-full : goal.init-returns-in_err-full
init-returns-in_err-full t c = ways.did-exit c.from_residual.result c.from_residual.ensures.1 (declrs.init-stop (walks_f c.args.below) c.args.depth ((sims c.args.below).full (suc c.args.depth)) c.requires.0 c.requires.1 c.requires.2 c.skip-j.ensures.0 (rest c.args.w.now).var_decl_kind (ap is_const (sym c.var_decl_kind-kind.ensures) ∙ sym c.is_const.ensures ∙ c.if-is_const.false) c.name_at-bound.result.form c.name_at-bound.ensures.1 c.name_at-bound.result.ident c.name_at-bound.ensures.0 c.stays.ensures c.if-stays.false c.if-n-eq1.false c.in_err-full.ensures)

pub init-skip-end-requires : goal.init-skip-end-requires
init-skip-end-requires t c = heres.here-below c.args.node (omega (arith, c.skip-j.ensures.1)) (heres.here-still ((sims c.args.below).full (c.args.depth + 1)) (heres.here-one (λ z. omega (arith, z, c.if-n-eq1.false, c.requires.2.some)) (heres.here-next sim-skip (heres.here-kids c.requires.0 c.requires.1) (λ z. omega (arith, z, c.requires.2.some)) (ways.did-skip (c.args.node + 1) c.requires.0.planted c.skip-j.ensures.0))) refl c.in_ok-full.ensures)

pub init-declr_after-requires-2 : goal.init-declr_after-requires-2
init-declr_after-requires-2 t c = (c.in_ok-full.ensures.ok.planted, declrs.spot (walks_f c.args.below) c.args.depth ((sims c.args.below).full (suc c.args.depth)) c.requires.0 c.requires.1 c.requires.2 c.skip-j.ensures.0 (declrs.walked (walks_f c.args.below) c.args.depth ((sims c.args.below).full (suc c.args.depth)) c.requires.0 c.requires.1 c.requires.2 c.skip-j.ensures.0 c.if-n-eq1.false c.in_ok-full.ensures c.skip-end.ensures.0) (λ z. c.skip-end.ensures.0))

pub init-returns : goal.init-returns
init-returns t c = declrs.init-then (walks_f c.args.below) c.args.depth ((sims c.args.below).full (suc c.args.depth)) c.requires.0 c.requires.1 c.requires.2 c.skip-j.ensures.0 (rest c.args.w.now).var_decl_kind (ap is_const (sym c.var_decl_kind-kind.ensures) ∙ sym c.is_const.ensures ∙ c.if-is_const.false) c.name_at-bound.result.form c.name_at-bound.ensures.1 c.name_at-bound.result.ident c.name_at-bound.ensures.0 c.stays.ensures c.if-stays.false (declrs.walked (walks_f c.args.below) c.args.depth ((sims c.args.below).full (suc c.args.depth)) c.requires.0 c.requires.1 c.requires.2 c.skip-j.ensures.0 c.if-n-eq1.false c.in_ok-full.ensures c.skip-end.ensures.0) (declrs.after-kind c.args.node c.name_at-bound.result.form c.name_at-bound.result.ident (c.args.n - 1) c.skip-j.result c.skip-end.result c.var_decl_kind-kind.ensures c.declr_after-2.ensures)

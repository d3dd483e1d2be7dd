-- The goals of arm. Assumes nothing.
use native.Mathlib.Omega.{arith}
use Rattle.words_scopes.specs.Kinds.{kind_of}
use Rattle.def_pass.specs.Walk.{opening}
use Rattle.laws_flat.specs.WalkF.{walks_f, visit_with_child_f}
use Rattle.walk_laws.proofs.Heres as heres
use Rattle.walk_laws.proofs.Ways as ways
use Rattle.walk.proofs.+walks.Goals as goal

pub arm-returns-in_err-enter : goal.arm-returns-in_err-enter
unfolding visit_with_child_f
arm-returns-in_err-enter t c = ways.did-exit c.from_residual.result c.from_residual.ensures.1 (ways.scope-full (kind_of c.args.kind) ((walks_f c.args.below).bare c.args.depth c.args.node) c.in_err-enter.ensures.did)

pub arm-returns-then-below-eq0 : goal.arm-returns-then-below-eq0
unfolding visit_with_child_f
arm-returns-then-below-eq0 t c = ways.scope-stop (kind_of c.args.kind) ((walks_f c.args.below).bare c.args.depth c.args.node) c.in_ok-enter.ensures.did (ways.bare-none c.args.depth c.args.node c.args.below c.in_ok-enter.ensures.did.ok.planted c.if-below-eq0.true)

pub arm-own-requires : goal.arm-own-requires
arm-own-requires t c = (omega (arith, c.decreases, c.if-below-eq0.false), heres.here-up c.if-below-eq0.false (heres.here-rest (opening (kind_of c.args.kind)) c.in_ok-enter.ensures.did c.requires))

pub arm-returns-in_err-j : goal.arm-returns-in_err-j
unfolding visit_with_child_f
arm-returns-in_err-j t c = ways.did-exit c.from_residual-in_err-j.result c.from_residual-in_err-j.ensures.1 (ways.scope-stop (kind_of c.args.kind) ((walks_f c.args.below).bare c.args.depth c.args.node) c.in_ok-enter.ensures.did (ways.bare_of_lem c.args.depth c.args.node c.args.below c.if-below-eq0.false c.in_err-j.ensures))

pub arm-returns : goal.arm-returns
unfolding visit_with_child_f
arm-returns t c = ways.scope_then (kind_of c.args.kind) ((walks_f c.args.below).bare c.args.depth c.args.node) c.in_ok-enter.ensures.did (ways.bare_of_lem c.args.depth c.args.node c.args.below c.if-below-eq0.false c.in_ok-j.ensures) c.save_fields-before.ensures c.leave.ensures

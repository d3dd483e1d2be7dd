-- The replacement, with no mark. Assumes nothing.
use Rattle.std.proofs.Common.{refl, arith}
use Rattle.refusal.proofs.Rows.{exit}
use Rattle.def_pass.specs.Tree.{void_zero}
use Rattle.words_state.specs.State.{abs}
use Rattle.scope.specs.Steps.{Did}
use Rattle.walk_ident.specs.Steps.{quiet, swap_f}
use Rattle.walk_ident.proofs.Laws as laws
use Rattle.walk_ident.proofs.inline_undefined.Goals as goal

pub returns-in_err-put_void-clause-did : goal.returns-in_err-put_void-clause-did
returns-in_err-put_void-clause-did c =
    let w = c.args.w.now in
    exit (λ r. Did w c.put_void.new.w r (swap_f c.args.p void_zero c.args.i (abs w))) c.from_residual.result c.from_residual.ensures.1 (laws.goes-stop w _ c.args.p c.args.i void_zero c.requires.0 c.requires.1 quiet refl _ c.in_err-put_void.ensures)

pub returns-clause-did : goal.returns-clause-did
returns-clause-did c =
    let w = c.args.w.now in
    let h = c.in_ok-put_void.ensures in
    laws.goes_on w _ c.args.p c.args.i void_zero c.requires.0 c.requires.1 quiet refl h (laws.turns-self h.1.planted) (omega arith)

use Rattle.std.proofs.Common.{◌≡◌, OnErr, ℕ, ◌+◌, refl, ap}
use Rattle.refusal.proofs.Rows.{exit}
use Rattle.words_scopes.specs.State.{stack}
use Rattle.def_pass.specs.Scope.{find_constant}
use Rattle.words_state.specs.State.{abs}
use Rattle.scope.specs.Steps.{Did}
use Rattle.scope.specs.Handles.{value_tree}
use Rattle.scope.proofs.Numbers as numbers
use Rattle.walk_ident.specs.Steps.{changes, constant_at, const_f}
use Rattle.walk_ident.proofs.Laws as laws
use Rattle.walk_ident.proofs.Fates as fates
use Rattle.walk_ident.proofs.inline_constant.Goals as goal

pub returns-in_err-put_constant-clause-did : goal.returns-in_err-put_constant-clause-did
returns-in_err-put_constant-clause-did c =
    let w = c.args.w.now in
    let e = value_tree (constant_at (abs w) c.args.i) in
    let k = fates.const-now w c.args.i c.ident_at-x.result c.requires.1 c.ident_at-x.ensures c.requires.3 in
    exit (λ r. Did w c.put_constant.new.w r (const_f c.args.p e c.args.i (abs w))) c.from_residual.result c.from_residual.ensures.1 (laws.goes-stop w _ c.args.p c.args.i e c.requires.0 c.requires.1 changes refl _ (numbers.puts-swapped w c.args.p c.args.i e _ _ (find_constant c.ident_at-x.result (stack w)) c.requires.1 k.0 c.in_err-put_constant.ensures.0))

pub returns-in_err-put_constant-clause-kept : goal.returns-in_err-put_constant-clause-kept
returns-in_err-put_constant-clause-kept c =
    let w = c.args.w.now in
    let e = value_tree (constant_at (abs w) c.args.i) in
    let k = fates.const-now w c.args.i c.ident_at-x.result c.requires.1 c.ident_at-x.ensures c.requires.3 in
    exit (λ r. OnErr r (c.put_constant.new.w ≡ w)) c.from_residual.result c.from_residual.ensures.1 (numbers.puts-swapped w c.args.p c.args.i e _ _ (find_constant c.ident_at-x.result (stack w)) c.requires.1 k.0 c.in_err-put_constant.ensures.0).1

pub returns-clause-did : goal.returns-clause-did
returns-clause-did c =
    let w = c.args.w.now in
    let e = value_tree (constant_at (abs w) c.args.i) in
    let k = fates.const-now w c.args.i c.ident_at-x.result c.requires.1 c.ident_at-x.ensures c.requires.3 in
    laws.goes_on w _ c.args.p c.args.i e c.requires.0 c.requires.1 changes refl (numbers.puts-swapped w c.args.p c.args.i e _ _ (find_constant c.ident_at-x.result (stack w)) c.requires.1 k.0 c.in_ok-put_constant.ensures.0) c.set_changed.ensures (ap (λ (n : ℕ). c.args.i + n) k.1)

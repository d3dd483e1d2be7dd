use Rattle.std.proofs.Common.{◌≡◌, OnErr, ℕ, ◌+◌, suc, ◌&&◌, not, eqb, sym, ap, ◌∙◌}
use Rattle.refusal.proofs.Rows.{exit}
use Rattle.def_pass.specs.Scope.{value_o}
use Rattle.def_tree.specs.Tree.{num}
use Rattle.def_pass.specs.Tree.{is_ident, count_o}
use Rattle.words.specs.Layout.{tree}
use Rattle.words_scopes.specs.State.{stack}
use Rattle.words_state.specs.State.{rest, abs}
use Rattle.scope.specs.Steps.{Did}
use Rattle.scope.specs.Handles.{numbered}
use Rattle.scope.proofs.Numbers as numbers
use Rattle.walk_ident.specs.Steps.{value_by, noted, counts_if, swap_f, value_f}
use Rattle.walk_ident.proofs.Laws as laws
use Rattle.walk_ident.proofs.inline_value.Goals as goal
use Rattle.walk_ident.proofs.inline_value.Goals.{After-value_len-m}

-- what the replacement is, by the identifier, and by whether the value is the same one
value-here : (c : After-value_len-m)
    → value_f c.args.p (value_by c.args.w.now c.args.b) c.args.i (abs c.args.w.now) ≡ swap_f c.args.p (value_by c.args.w.now c.args.b) c.args.i (record { nodes = tree c.args.w.now; rest = noted (counts_if (not c.same_ident-same.result) c.ident_at-x.result) (rest c.args.w.now) })
value-here c =
    let w = c.args.w.now in
    let e = value_by w c.args.b in
    let x = c.ident_at-x.ensures ∙ sym (laws.tree-num w c.args.i c.requires.1) in
    laws.value-is w c.args.p c.args.i e c.same_ident-same.result c.ident_at-x.result (c.same_ident-same.ensures ∙ ap (λ (n : ℕ). is_ident e && eqb (num e) n) x) x

pub returns-in_err-put_value-clause-did : goal.returns-in_err-put_value-clause-did
returns-in_err-put_value-clause-did c =
    let w = c.args.w.now in
    let e = value_by w c.args.b in
    exit (λ r. Did w c.put_value.new.w r (value_f c.args.p e c.args.i (abs w))) c.from_residual.result c.from_residual.ensures.1
    (laws.goes-stop w _ c.args.p c.args.i e c.requires.0 c.requires.1 (counts_if (not c.same_ident-same.result) c.ident_at-x.result) (value-here (goal.at.returns-in_err-put_value-clause-did c).After-value_len-m) _
    (numbers.puts-swapped w c.args.p c.args.i e _ _ (value_o (numbered (stack w) (suc c.args.b))) c.requires.1 c.requires.3 c.in_err-put_value.ensures))

pub returns-in_err-put_value-clause-kept : goal.returns-in_err-put_value-clause-kept
returns-in_err-put_value-clause-kept c =
    let w = c.args.w.now in
    exit (λ r. OnErr r (c.put_value.new.w ≡ w)) c.from_residual.result c.from_residual.ensures.1
    (numbers.puts-swapped w c.args.p c.args.i (value_by w c.args.b) _ _ (value_o (numbered (stack w) (suc c.args.b))) c.requires.1 c.requires.3 c.in_err-put_value.ensures).1

pub returns-clause-did : goal.returns-clause-did
returns-clause-did c =
    let w = c.args.w.now in
    let e = value_by w c.args.b in
    laws.goes_on w _ c.args.p c.args.i e c.requires.0 c.requires.1 (counts_if (not c.same_ident-same.result) c.ident_at-x.result) (value-here (goal.at.returns-clause-did c).After-value_len-m)
    (numbers.puts-swapped w c.args.p c.args.i e _ _ (value_o (numbered (stack w) (suc c.args.b))) c.requires.1 c.requires.3 c.in_ok-put_value.ensures) c.counted.ensures (ap (λ (n : ℕ). c.args.i + n) (c.value_len-m.ensures.0 ∙ ap count_o c.requires.3))

-- Assumes nothing.
use Rattle.std.proofs.Common.{◌≡◌, ℕ, ◌<◌, false, get_or, inl, inr, sym, ◌∙◌, subst, arith}
use Rattle.std.specs.Prelude.{T}
use Rattle.std.proofs.lemmas.Bool.{cases_eq, cases_lt}
use Rattle.def_text.specs.Grammar.{is_for}
use Rattle.text_table.specs.Rows.{rows, no_row}
use Rattle.text_rows.proofs.Tests.{counts-is}
use Rattle.text_rows.proofs.Found.{outside}
use Rattle.text_rows.proofs.any.Goals as goal

pub returns-then-is_for : goal.returns-then-is_for
returns-then-is_for c =
    let l : c.loop-i.i < 136 = omega (arith, c.range-from.ensures.few) in
    (l, subst T (c.if-is_for.ensures ∙ counts-is c.loop-i.i c.args.kind c.args.form c.args.n _ l) tt)

pub loop-i-preserved : goal.loop-i-preserved
loop-i-preserved c = λ j a b. elim (cases_eq j c.loop-i.i) [
  | inl s ↦ let l : c.loop-i.i < 136 = omega (arith, c.range-from.ensures.few) in subst (λ (k : ℕ). is_for c.args.kind c.args.form c.args.n (get_or rows k no_row).rule ≡ false) (sym s) (sym (counts-is c.loop-i.i c.args.kind c.args.form c.args.n _ l) ∙ sym c.is_for.ensures ∙ c.if-is_for.false)
  | inr o ↦ c.loop-i.invariant j a (omega arith)
]

pub returns : goal.returns
returns c = λ j l. elim (cases_lt j c.range-from.result.0) [
  | inl q ↦ outside c.args.kind c.args.form c.args.n c.range-from.result.0 c.range-from.result.1 j c.range-from.ensures l (inl q)
  | inr q ↦ elim (cases_lt j c.range-from.result.1) [
    | inl t ↦ c.loop-i.invariant j q (omega arith)
    | inr t ↦ outside c.args.kind c.args.form c.args.n c.range-from.result.0 c.range-from.result.1 j c.range-from.ensures l (inr t)
  ]
]

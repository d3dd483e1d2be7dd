-- Assumes nothing.
use Rattle.std.proofs.Common.{◌≡◌, ℕ, ◌<◌, false, get_or, inl, inr, sym, ◌∙◌, subst, arith}
use Rattle.std.proofs.lemmas.Bool.{cases_eq}
use Rattle.text_table.specs.Rows.{rows, no_row}
use Rattle.text_table.specs.Put.{stands}
use Rattle.text_rows.specs.Rows.{spot_of}
use Rattle.text_rows.proofs.Tests.{counts-is, guard-is}
use Rattle.text_rows.proofs.Found.{not-for, not-bit, not-asked, all-three, stand-at, stand-none, bit-true, bit-false}
use Rattle.text_rows.proofs.stand.Goals as goal
use Rattle.text_rows.proofs.stand.Goals.{else-is_for-via-then-is_for+then-row-from-eq1+else-asked, else-is_for-via-then-is_for+else-row-from-eq1, else-is_for-via-else-is_for}

pub returns-then-asked : goal.returns-then-asked
returns-then-asked c =
    let a = c.args in
    let i = c.loop-i.i in
    let l : i < 136 = omega (arith, c.range-from.ensures.few) in (
      l,
      stand-at a.kind a.form a.n c.range-from.result.0 c.range-from.result.1 i (spot_of a.«at») c.range-from.ensures l c.loop-i.invariant
          (all-three a.kind a.form a.n (spot_of a.«at») (get_or rows i no_row) (sym (counts-is i a.kind a.form a.n _ l) ∙ sym c.is_for.ensures ∙ c.if-is_for.true) (bit-true i a.«at».place c.from.result _ l c.from.ensures c.if-row-from-eq1.true)
          (sym (guard-is i a.n _ a.«at».has_in a.«at».has_return a.«at».has_else l) ∙ sym c.asked.ensures ∙ c.if-asked.true)),
    )

pub loop-i-preserved : goal.loop-i-preserved
loop-i-preserved c = λ j a b. elim (cases_eq j c.loop-i.i) [
  | inl s ↦ subst (λ (k : ℕ). stands c.args.kind c.args.form c.args.n (spot_of c.args.«at») (get_or rows k no_row) ≡ false) (sym s) (elim c.else-is_for.branch [
    | else-is_for-via-then-is_for+then-row-from-eq1+else-asked w ↦ not-asked c.args.kind c.args.form c.args.n (spot_of c.args.«at») (get_or rows c.loop-i.i no_row) (sym (guard-is c.loop-i.i c.args.n _ c.args.«at».has_in c.args.«at».has_return c.args.«at».has_else (omega (arith, c.range-from.ensures.few))) ∙ sym w.asked.ensures ∙ w.if-asked.false)
    | else-is_for-via-then-is_for+else-row-from-eq1 w ↦ not-bit c.args.kind c.args.form c.args.n (spot_of c.args.«at») (get_or rows c.loop-i.i no_row) (bit-false c.loop-i.i c.args.«at».place w.from.result _ (omega (arith, c.range-from.ensures.few)) w.from.ensures w.if-row-from-eq1.false)
    | else-is_for-via-else-is_for w ↦ not-for c.args.kind c.args.form c.args.n (spot_of c.args.«at») (get_or rows c.loop-i.i no_row) (sym (counts-is c.loop-i.i c.args.kind c.args.form c.args.n _ (omega (arith, c.range-from.ensures.few))) ∙ sym c.is_for.ensures ∙ w.if-is_for.false)
  ])
  | inr o ↦ c.loop-i.invariant j a (omega arith)
]

pub returns : goal.returns
returns c =
    let a = c.args in
    stand-none a.kind a.form a.n c.range-from.result.0 c.range-from.result.1 (spot_of a.«at») c.range-from.ensures (λ j q t. c.loop-i.invariant j q (omega arith))

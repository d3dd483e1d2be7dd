-- No row has a kind from 49 on or a form from 32 on, and the others are in the range of their kind and form. Assumes nothing.
use Rattle.std.proofs.Common.{◌≡◌, ℕ, ◌+◌, ◌*◌, ◌≤◌, get_or, ap₂, arith, subst, sym, ◌∙◌}
use Rattle.text_table.specs.Rows.{rows, no_row}
use Rattle.text_table.specs.declared.TheConstants.{STARTS}
use Rattle.text_rows.proofs.Tests.{ranges-at, starts-at}
use Rattle.text_rows.proofs.range.Goals as goal
use Rattle.text_rows.proofs.range.Goals.{then-kind-ge49-via-then-kind-ge49, then-kind-ge49-via-else-kind-ge49+then-form-ge32}

pub returns-then-kind-ge49 : goal.returns-then-kind-ge49
returns-then-kind-ge49 c = record {
  few = omega arith;
  all = λ i h a b. let r = ranges-at i h in elim c.then-kind-ge49.branch [
    | then-kind-ge49-via-then-kind-ge49 w ↦ absurd (omega (arith, w.if-kind-ge49, r.kind, a))
    | then-kind-ge49-via-else-kind-ge49+then-form-ge32 w ↦ absurd (omega (arith, w.if-form-ge32, r.form, b))
  ];
}

pub returns : goal.returns
returns c = record {
  few = let l = starts-at (c.from.result * 32 + c.from-2.result + 1) in omega (arith, l, c.from-4.ensures);
  all = λ i h a b.
      let r = ranges-at i h in
      let e : (get_or rows i no_row).rule.kind * 32 + (get_or rows i no_row).rule.form ≡ c.from.result * 32 + c.from-2.result = ap₂ (λ (x y : ℕ). x * 32 + y) (a ∙ sym c.from.ensures) (b ∙ sym c.from-2.ensures) in
      let x = subst (λ (k : ℕ). get_or STARTS k 0 ≤ i) e r.low in
      let y = subst (λ (k : ℕ). i + 1 ≤ get_or STARTS (k + 1) 0) e r.high in
      (omega (arith, x, c.from-3.ensures), omega (arith, y, c.from-4.ensures));
}

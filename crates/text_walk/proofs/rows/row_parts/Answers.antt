-- Assumes nothing.
use Rattle.std.proofs.Common.{◌≡◌, ℕ, ◌+◌, ◌-◌, ◌*◌, take, drop, ap, ◌∙◌, arith}
use Rattle.text_table.specs.declared.TheConstants.{ALL_PARTS}
use Rattle.text_parts.proofs.Table.{in-table}
use Rattle.text_walk.proofs.rows.row_parts.Goals as goal

pub returns : goal.returns
returns c =
    let r = c.args.row in
    let e : r * 11 + 11 - r * 11 ≡ 11 = omega arith in
    ap (λ (n : ℕ). take n (drop (r * 11) ALL_PARTS)) e ∙ in-table r c.requires

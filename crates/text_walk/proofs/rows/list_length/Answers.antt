-- Assumes nothing.
use Rattle.std.proofs.Common.{◌≡◌, ℕ, ◌-◌, get_or, ap, ◌∙◌, arith}
use Rattle.def_text.specs.Grammar.{singles}
use Rattle.text_table.specs.Rows.{rows, no_row}
use Rattle.text_walk.proofs.Singles.{singles-few, singles-at}
use Rattle.text_walk.proofs.rows.list_length.Goals as goal

pub overflow_sub-result : goal.overflow_sub-result
overflow_sub-result c = let e : c.from.result ≡ singles (get_or rows c.args.row no_row).rule.right = c.from.ensures ∙ singles-at c.args.row _ c.requires.0 in omega (arith, e, singles-few c.args.kind c.requires.1.0 c.args.n (get_or rows c.args.row no_row).rule c.requires.1.1)

pub returns : goal.returns
returns c = ap (λ (m : ℕ). c.args.n - m) (c.from.ensures ∙ singles-at c.args.row _ c.requires.0)

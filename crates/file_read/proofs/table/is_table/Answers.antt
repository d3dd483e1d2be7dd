-- `file_read::table::is_table` meets its contract: the entries one by one. Assumes nothing.
use Rattle.std.proofs.Common.{Bool, ◌&&◌, leb, sym, ap, ◌∙◌, arith}
use Rattle.std.specs.List.{list_all}
use Rattle.std.proofs.lemmas.Bool.{eq-eqb}
use Rattle.file_read.proofs.Tables.{all_done}
use Rattle.file_read.proofs.table.is_table.Goals as goal

pub returns : goal.returns
returns c =
    let T = c.args.table.now in
    all_done (λ b. leb b 1) T c.loop-entry.entry-index c.loop-entry.known (omega (arith, c.loop-entry.auto.entry-index-end, c.loop-entry-test.false))
    ∙ c.loop-entry.invariant
    ∙ sym (ap (λ (p : Bool). p && list_all (λ b. leb b 1) T) (eq-eqb _ 2304 c.if-table-ne2304.false))

-- The constant table has the rows. Assumes nothing.
use Rattle.std.proofs.Common.{◌≡◌, refl}
use Rattle.std.specs.Prelude.{map}
use Rattle.def_text.specs.Table.{rules}
use Rattle.text_table.specs.declared.TheConstants.{ROWS, ALL_PARTS}
use Rattle.text_table.specs.Rows.{words, rows, entry, all_parts, parts_of}

pub table-rows : ROWS ≡ map entry rows
unfolding rules rows
table-rows = refl

pub table-parts : ALL_PARTS ≡ all_parts rows
unfolding rules words rows parts_of
table-parts = refl

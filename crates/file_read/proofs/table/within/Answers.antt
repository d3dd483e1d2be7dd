-- `file_read::table::within` meets its contract: the entries of both tables, one by one. Assumes nothing.
use Rattle.std.proofs.Common.{◌≡◌, length, refl, ◌∙◌, arith}
use Rattle.file_kinds.specs.declared.TheConstants.{KINDS}
use Rattle.file_read.proofs.Tables.{zip_step, zip_done, from_start, table-long}
use Rattle.file_read.proofs.table.within.Goals as goal

pub loop-k-preserved : goal.loop-k-preserved
loop-k-preserved c =
    let T = c.args.table.now in
    let long : length KINDS ≡ 2304 = refl in
    zip_step T KINDS c.loop-k.k c.loop-k.allowed (omega (arith, table-long T c.requires, c.loop-k-test.true)) (omega (arith, long, c.loop-k-test.true)) ∙ c.loop-k.invariant

pub returns : goal.returns
returns c =
    let T = c.args.table.now in
    zip_done T KINDS c.loop-k.k c.loop-k.allowed (omega (arith, table-long T c.requires, c.loop-k-test.false)) ∙ c.loop-k.invariant ∙ from_start T c.requires

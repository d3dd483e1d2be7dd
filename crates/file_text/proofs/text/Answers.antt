-- Read, printed and cleared. Assumes nothing.
use Rattle.std.proofs.lemmas.Result.{err_from_is_err_and}
use Rattle.file_text.proofs.Ends as ends
use Rattle.file_text.proofs.text.Goals as goal

pub write-written-requires : goal.write-written-requires
write-written-requires c = (ends.readable c.read.ensures _ c.in_ok-header.was, ends.short c.read.ensures _ c.in_ok-header.was, ends.long-enough c.read.ensures _ c.in_ok-header.was)

pub returns : goal.returns
returns c = ends.text-so c.read.ensures _ c.in_ok-header.was c.write-written.ensures c.clear.ensures

pub returns-in_err-header : goal.returns-in_err-header
returns-in_err-header c =
    let p = err_from_is_err_and c.from_residual.result c.from_residual.ensures.1 in
    rw (p.1, p.2) (ends.not-read c.read.ensures _ c.in_err-header.was)

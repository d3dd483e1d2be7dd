-- What the C function answers, as a result. Assumes nothing.
use Rattle.std.proofs.lemmas.Result.{err_from_is_err_and}
use Rattle.file_copy.proofs.Ends as ends
use Rattle.file_copy.proofs.copy.Goals as goal

pub clear-requires : goal.clear-requires
clear-requires c = ends.long-words (ends.was_read _ c.read.ensures c.in_ok-read.was)

pub returns : goal.returns
returns c = ends.written_back (ends.was_read _ c.read.ensures c.in_ok-read.was) (λ i. (c.type_inv.file i).fits) c.write-written.ensures c.clear.ensures

pub returns-in_err-read : goal.returns-in_err-read
returns-in_err-read c =
    let p = err_from_is_err_and c.from_residual.result c.from_residual.ensures.1 in
    rw (p.1, p.2) (ends.not-read c.read.ensures _ c.in_err-read.was)

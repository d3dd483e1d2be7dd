-- Words and header first. Assumes nothing.
use Rattle.std.proofs.Common.{length}
use Rattle.std.proofs.lemmas.Result.{err_from_is_err_and}
use Rattle.refusal.specs.declared.Refusal.TheVariants.{Call}
use Rattle.file_write.specs.Written.{written, result_bytes}
use Rattle.file_write.proofs.Laid as laid
use Rattle.file_write.proofs.write.Goals as goal

pub returns-then-words-lt16384 : goal.returns-then-words-lt16384
returns-then-words-lt16384 c =
    let a = c.args in
    let bs = a.file.now in
    let w = a.words.now in
    let r = a.res.now in
    laid.left_so (result_bytes bs w) r (written bs w (length r)) Call (laid.short bs w (length r) c.if-words-lt16384.true)

pub write_counted-requires : goal.write_counted-requires
write_counted-requires c =
    let a = c.args in
    laid.counted a.file.now a.words.now (length a.res.now) c.if-words-lt16384.false c.read_header.ensures _ c.in_ok-header.was

pub returns : goal.returns
returns c =
    let a = c.args in
    laid.as-found a.file.now a.words.now (length a.res.now) c.if-words-lt16384.false c.read_header.ensures _ c.in_ok-header.was c.write_counted.ensures

pub returns-in_err-header : goal.returns-in_err-header
returns-in_err-header c =
    let a = c.args in
    let bs = a.file.now in
    let w = a.words.now in
    let r = a.res.now in
    let p = err_from_is_err_and c.from_residual.result c.from_residual.ensures.1 in
    rw (p.1, p.2) (laid.left_so (result_bytes bs w) r (written bs w (length r)) _ (laid.head-refused bs w (length r) c.if-words-lt16384.false c.read_header.ensures _ c.in_err-header.was))

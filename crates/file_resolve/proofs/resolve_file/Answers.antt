-- Read, or refused. Assumes nothing.
use Rattle.std.proofs.lemmas.Result.{err_from_is_err_and}
use Rattle.file_resolve.proofs.Ends.{unread, was-read}
use Rattle.file_resolve.proofs.resolve_file.Goals as goal

pub returns-in_err-header : goal.returns-in_err-header
returns-in_err-header c =
    let p = err_from_is_err_and c.from_residual.result c.from_residual.ensures.1 in
    rw (p.1, p.2) (unread c.args.file.now c.args.buffer.now c.args.words.now c.in_err-header.ensures)

pub returns : goal.returns
returns c = was-read c.in_ok-header.ensures c.resolve_script.ensures

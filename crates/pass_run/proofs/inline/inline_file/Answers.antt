-- A file is read, or not; then the runs. Assumes nothing.
use Rattle.std.proofs.Common.{sym, ◌∙◌}
use Rattle.std.proofs.lemmas.Result.{err_from_is_err_and}
use Rattle.file_read.proofs.Readings.{same-read, read-same}
use Rattle.file_copy.proofs.Ends.{was_read}
use Rattle.pass_run.proofs.Files as files
use Rattle.pass_run.proofs.inline.inline_file.Goals as goal

pub start-requires : goal.start-requires
start-requires c = files.loaded (was_read _ (read-same c.args.table.now _ c.read_under.ensures c.in_ok-read_under.was) c.in_ok-read_under.was)

pub runs-ran-requires : goal.runs-ran-requires
runs-ran-requires c = c.start.ensures.is.planted

pub clear-requires : goal.clear-requires
clear-requires c = c.runs-ran.ensures.is.ok.planted.good.long

pub returns-then-is_err : goal.returns-then-is_err
returns-then-is_err c = files.stopped c.args.limit (same-read c.args.table.now _ c.read_under.ensures c.in_ok-read_under.was) (was_read _ (read-same c.args.table.now _ c.read_under.ensures c.in_ok-read_under.was) c.in_ok-read_under.was) c.start.ensures.is c.runs-ran.ensures.is (sym c.is_err.ensures.value ∙ c.if-is_err.true) c.clear.ensures

pub returns-else-is_err : goal.returns-else-is_err
returns-else-is_err c = files.ran c.args.limit (same-read c.args.table.now _ c.read_under.ensures c.in_ok-read_under.was) (was_read _ (read-same c.args.table.now _ c.read_under.ensures c.in_ok-read_under.was) c.in_ok-read_under.was) c.start.ensures.is c.runs-ran.ensures.is (c.runs-ran.ensures.balance c.start.ensures.balance) (sym c.is_err.ensures.value ∙ c.if-is_err.false)

pub returns-in_err-read_under : goal.returns-in_err-read_under
returns-in_err-read_under c =
    let p = err_from_is_err_and c.from_residual.result c.from_residual.ensures.1 in
    rw (p.1, p.2) (files.not-read c.args.limit _ c.requires c.read_under.ensures c.in_err-read_under.was)

-- `file_read::read::load_file` meets its contract: the table, then the file. Assumes nothing.
use Rattle.std.proofs.Common.{sym, ◌∙◌}
use Rattle.std.proofs.lemmas.Result.{err_from_is_err_and}
use Rattle.file_read.proofs.Readings.{table-refused, table-passed, stopped, few-script, loaded-script}
use Rattle.file_read.proofs.read.load_file.Goals as goal

pub returns-in_err-check_table : goal.returns-in_err-check_table
returns-in_err-check_table c =
    let e = err_from_is_err_and c.from_residual.result c.from_residual.ensures.1 in
    rw (e.1, e.2) (stopped _ (table-refused c.args.table.now c.args.file.now _ (sym c.check_table.ensures ∙ c.in_err-check_table.was)))

pub returns-in_err-h : goal.returns-in_err-h
returns-in_err-h c =
    let e = err_from_is_err_and c.from_residual-in_err-h.result c.from_residual-in_err-h.ensures.1 in
    rw (e.1, e.2) (stopped _ (table-passed c.args.table.now c.args.file.now _ (sym c.check_table.ensures ∙ c.in_ok-check_table.was) ∙ c.in_err-h.ensures))

pub returns-in_err-load : goal.returns-in_err-load
returns-in_err-load c =
    let e = err_from_is_err_and c.from_residual-in_err-load.result c.from_residual-in_err-load.ensures.1 in
    rw (e.1, e.2) (few-script c.args.table.now c.in_ok-h.ensures _ (table-passed c.args.table.now c.args.file.now _ (sym c.check_table.ensures ∙ c.in_ok-check_table.was)) c.in_err-load.ensures)

pub returns : goal.returns
returns c = loaded-script c.args.table.now c.in_ok-h.ensures (table-passed c.args.table.now c.args.file.now _ (sym c.check_table.ensures ∙ c.in_ok-check_table.was)) c.in_ok-load.ensures

-- `file_read::read::check` meets its contract: each way out is a row of the definition. Assumes nothing.
use Rattle.std.proofs.Common.{sym, ◌∙◌}
use Rattle.std.proofs.lemmas.Result.{err_from_is_err_and}
use Rattle.file_read.proofs.Readings.{read-not, rises-as, distinct-as, falls, twice, not-nodes, passed}
use Rattle.file_read.proofs.read.check.Goals as goal
use Rattle.file_read.proofs.read.check.Goals.{then-not-rising-via-then-not-rising, then-not-rising-via-else-not-rising+then-not-distinct}

pub returns-in_err-h : goal.returns-in_err-h
returns-in_err-h c = let e = err_from_is_err_and c.from_residual.result c.from_residual.ensures.1 in rw (e.1, e.2) (read-not c.args.table.now c.in_err-h.ensures)

pub returns-then-not-rising : goal.returns-then-not-rising
returns-then-not-rising c =
    let T = c.args.table.now in
    let H = c.in_ok-h.ensures in
    let at = c.places-at.ensures in
    elim c.then-not-rising.branch [
      | then-not-rising-via-then-not-rising w ↦ falls T H (rises-as T H at c.rising.ensures w.if-not-rising.true)
      | then-not-rising-via-else-not-rising+then-not-distinct w ↦ twice T H (rises-as T H at c.rising.ensures w.if-not-rising.false) (distinct-as T H at w.distinct.ensures w.if-not-distinct.true)
    ]

pub returns-then-not-nodes_ok_under : goal.returns-then-not-nodes_ok_under
returns-then-not-nodes_ok_under c =
    let T = c.args.table.now in
    let H = c.in_ok-h.ensures in
    let at = c.places-at.ensures in
    not-nodes T H (rises-as T H at c.rising.ensures c.if-not-rising.false) (distinct-as T H at c.distinct.ensures c.if-not-distinct.false) (sym c.nodes_ok_under.ensures ∙ c.if-not-nodes_ok_under.true)

pub returns : goal.returns
returns c =
    let T = c.args.table.now in
    let H = c.in_ok-h.ensures in
    let at = c.places-at.ensures in
    passed T H (rises-as T H at c.rising.ensures c.if-not-rising.false) (distinct-as T H at c.distinct.ensures c.if-not-distinct.false) (sym c.nodes_ok_under.ensures ∙ c.if-not-nodes_ok_under.false)

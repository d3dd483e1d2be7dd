-- `file_resolve::check` meets its contract: each way out is one of the definition. Assumes nothing.
use Rattle.std.proofs.Common.{[], sym, ◌∙◌}
use Rattle.std.proofs.lemmas.Result.{err_from_is_err_and}
use Rattle.file_read.proofs.Readings.{rises-as, distinct-as}
use Rattle.file_resolve.proofs.Rows.{read-not, falls, twice, not-nodes, passed}
use Rattle.file_resolve.proofs.check.Goals as goal
use Rattle.file_resolve.proofs.check.Goals.{then-not-rising-via-then-not-rising, then-not-rising-via-else-not-rising+then-not-distinct}

pub returns-in_err-header : goal.returns-in_err-header
returns-in_err-header c = let e = err_from_is_err_and c.from_residual.result c.from_residual.ensures.1 in rw (e.1, e.2) (read-not c.in_err-header.ensures)

pub returns-then-not-rising : goal.returns-then-not-rising
returns-then-not-rising c =
    let H = c.in_ok-header.ensures in
    let at = c.places-at.ensures in
    elim c.then-not-rising.branch [
      | then-not-rising-via-then-not-rising w ↦ falls H (rises-as [] H at c.rising.ensures w.if-not-rising.true)
      | then-not-rising-via-else-not-rising+then-not-distinct w ↦ twice H (rises-as [] H at c.rising.ensures w.if-not-rising.false) (distinct-as [] H at w.distinct.ensures w.if-not-distinct.true)
    ]

pub returns-then-not-nodes_ok : goal.returns-then-not-nodes_ok
returns-then-not-nodes_ok c =
    let H = c.in_ok-header.ensures in
    let at = c.places-at.ensures in
    not-nodes H (rises-as [] H at c.rising.ensures c.if-not-rising.false) (distinct-as [] H at c.distinct.ensures c.if-not-distinct.false) (sym c.nodes_ok.ensures ∙ c.if-not-nodes_ok.true)

pub returns : goal.returns
returns c =
    let H = c.in_ok-header.ensures in
    let at = c.places-at.ensures in
    passed H (rises-as [] H at c.rising.ensures c.if-not-rising.false) (distinct-as [] H at c.distinct.ensures c.if-not-distinct.false) (sym c.nodes_ok.ensures ∙ c.if-not-nodes_ok.false)

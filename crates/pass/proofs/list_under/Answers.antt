-- The whole pass, with its root bindings written. Assumes nothing.
use Rattle.std.proofs.lemmas.Result.{err_from_is_err_and}
use Rattle.pass.proofs.Entries.{ran-enough, ran-file, final}
use Rattle.pass.proofs.Listings.{known, no-rows, last_row}
use Rattle.pass.proofs.list_under.Goals as goal

pub write_roots-written-requires : goal.write_roots-written-requires
write_roots-written-requires c = let f = final (ran-file c.args.table.now c.run.ensures.refused c.run.ensures.ran c.in_ok-run.was) c.in_ok-run.was in (f.planted.good, known f)

pub clear-requires : goal.clear-requires
clear-requires c = (final (ran-file c.args.table.now c.run.ensures.refused c.run.ensures.ran c.in_ok-run.was) c.in_ok-run.was).listed.long

pub returns : goal.returns
returns c =
    let f = ran-file c.args.table.now c.run.ensures.refused c.run.ensures.ran c.in_ok-run.was in
    let e = ran-enough c.args.table.now c.run.ensures.refused c.run.ensures.ran c.in_ok-run.was in
    last_row c.args.table.now f c.in_ok-run.was c.write_roots-written.ensures c.clear.ensures e

pub returns-in_err-run : goal.returns-in_err-run
returns-in_err-run c =
    let p = err_from_is_err_and c.from_residual.result c.from_residual.ensures.1 in
    rw (p.1, p.2) (no-rows c.run.ensures.refused c.run.ensures.ran _ c.in_err-run.was)

-- The whole pass, with its result written. Assumes nothing.
use Rattle.std.proofs.lemmas.Result.{err_from_is_err_and}
use Rattle.pass.proofs.Entries.{ran-enough, ran-file, refused-row, final, wrote-row, short-row}
use Rattle.pass.proofs.inline_under.Goals as goal

pub clear-requires : goal.clear-requires
clear-requires c = let f = ran-file c.args.table.now c.run.ensures.refused c.run.ensures.ran c.in_ok-ran.was in (final f c.in_ok-ran.was).listed.long

pub returns : goal.returns
returns c =
    let f = ran-file c.args.table.now c.run.ensures.refused c.run.ensures.ran c.in_ok-ran.was in
    let e = ran-enough c.args.table.now c.run.ensures.refused c.run.ensures.ran c.in_ok-ran.was in
    wrote-row c.args.table.now f c.in_ok-ran.was (λ i. (c.type_inv.file i).fits) c.write-written.ensures c.clear.ensures e _ c.in_ok-written.was

pub returns-in_err-written : goal.returns-in_err-written
returns-in_err-written c =
    let f = ran-file c.args.table.now c.run.ensures.refused c.run.ensures.ran c.in_ok-ran.was in
    let e = ran-enough c.args.table.now c.run.ensures.refused c.run.ensures.ran c.in_ok-ran.was in
    let p = err_from_is_err_and c.from_residual-in_err-written.result c.from_residual-in_err-written.ensures.1 in
    rw (p.1, p.2) (short-row c.args.table.now f c.in_ok-ran.was (λ i. (c.type_inv.file i).fits) c.write-written.ensures c.clear.ensures e _ c.in_err-written.was)

pub returns-in_err-ran : goal.returns-in_err-ran
returns-in_err-ran c =
    let p = err_from_is_err_and c.from_residual.result c.from_residual.ensures.1 in
    rw (p.1, p.2) (refused-row c.args.table.now c.run.ensures.refused c.run.ensures.ran _ c.in_err-ran.was)

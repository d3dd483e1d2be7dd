-- Read, numbered, written and cleared. Assumes nothing.
use Rattle.std.proofs.lemmas.Result.{err_from_is_err_and}
use Rattle.file_copy.proofs.Ends.{was_read, long-words, within}
use Rattle.file_canon.proofs.Ends as ends
use Rattle.file_canon.proofs.canon.Goals as goal

pub number-requires : goal.number-requires
number-requires c =
    let counts = within _ c.read.ensures c.in_ok-header.was in
    (record { few = counts.0; room = counts.1 }, long-words (was_read _ c.read.ensures c.in_ok-header.was))

pub invariant_of-form : goal.invariant_of-form
invariant_of-form c = record { held = ends.held c.read.ensures _ c.in_ok-header.was (λ i. (c.type_inv.file i).fits) c.number.ensures }

pub returns : goal.returns
returns c = ends.written-so c.read.ensures _ c.in_ok-header.was (λ i. (c.type_inv.file i).fits) c.number.ensures c.write-written.ensures c.clear.ensures

pub returns-in_err-header : goal.returns-in_err-header
returns-in_err-header c =
    let p = err_from_is_err_and c.from_residual.result c.from_residual.ensures.1 in
    rw (p.1, p.2) (ends.not-read c.read.ensures _ c.in_err-header.was)

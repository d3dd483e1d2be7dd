-- In scope k, if it stands behind its beginning. Assumes nothing.
use Rattle.std.proofs.Common.{sym, ap, ◌∙◌, arith}
use Rattle.words.specs.Place.{placed}
use Rattle.scope_find.proofs.Placed as places
use Rattle.scope_find.proofs.found_from.Goals as goal

pub returns-in_err-b : goal.returns-in_err-b
returns-in_err-b c = rw c.from_residual.ensures (places.found-none c.args.w.now c.requires.0.0 c.args.k c.requires.0.1 c.args.x (sym (ap placed c.in_err-b.was) ∙ c.requires.1))

pub returns-then-b-first_of : goal.returns-then-b-first_of
returns-then-b-first_of c = places.found-outer c.args.w.now c.requires.0.0 c.args.k c.requires.0.1 c.args.x c.in_ok-b.b (sym (ap placed c.in_ok-b.was) ∙ c.requires.1) (omega (arith, c.first_of.ensures))

pub returns : goal.returns
returns c = rw c.in_ok-b.was (places.found-here c.args.w.now c.requires.0.0 c.args.k c.requires.0.1 c.args.x c.in_ok-b.b (sym (ap placed c.in_ok-b.was) ∙ c.requires.1) (omega (arith, c.first_of.ensures)))

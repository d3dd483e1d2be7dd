-- What the binding found shadows, or the same one. Assumes nothing.
use Rattle.std.proofs.Common.{sym, ap, ◌∙◌, arith}
use Rattle.words.specs.Place.{placed}
use Rattle.scope_find.proofs.Facts as facts
use Rattle.scope_find.proofs.Placed as places
use Rattle.scope_find.proofs.outside.Goals as goal

pub returns-in_err-b : goal.returns-in_err-b
returns-in_err-b c = rw c.from_residual.ensures (places.outside-none c.args.w.now c.requires.0.0 c.args.k c.requires.0.1 c.args.x (sym (ap placed c.in_err-b.was) ∙ c.requires.1))

pub returns-then-b-first_of : goal.returns-then-b-first_of
returns-then-b-first_of c = rw c.in_ok-b.was (places.outside-same c.args.w.now c.requires.0.0 c.args.k c.requires.0.1 c.args.x c.in_ok-b.b (sym (ap placed c.in_ok-b.was) ∙ c.requires.1) (omega (arith, c.first_of.ensures)))

pub overflow_add-b : goal.overflow_add-b
overflow_add-b c = omega (arith, places.outside-fits c.args.w.now c.requires.0.0 c.args.k c.requires.0.1 c.args.x c.in_ok-b.b (sym (ap placed c.in_ok-b.was) ∙ c.requires.1))

pub offset_bounds-w-b : goal.offset_bounds-w-b
offset_bounds-w-b c = omega (arith, places.outside-fits c.args.w.now c.requires.0.0 c.args.k c.requires.0.1 c.args.x c.in_ok-b.b (sym (ap placed c.in_ok-b.was) ∙ c.requires.1))

pub bounds-w-b : goal.bounds-w-b
bounds-w-b c = omega (arith, c.requires.0.0.long, places.outside-fits c.args.w.now c.requires.0.0 c.args.k c.requires.0.1 c.args.x c.in_ok-b.b (sym (ap placed c.in_ok-b.was) ∙ c.requires.1))

pub returns : goal.returns
returns c = facts.placed-less _ _ c.checked_sub.ensures ∙ places.outside-shadowed c.args.w.now c.requires.0.0 c.args.k c.requires.0.1 c.args.x c.in_ok-b.b (sym (ap placed c.in_ok-b.was) ∙ c.requires.1) (omega (arith, c.first_of.ensures))

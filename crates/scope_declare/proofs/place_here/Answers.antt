-- The place that idx_val finds, or the number of the bindings. Assumes nothing.
use mathlib.Core.Path.{◌≡◌, sym, ap, ◌∙◌}
use native.Mathlib.Omega.{arith}
use Rattle.scope_declare.proofs.Init as init
use Rattle.words_scopes.specs.State.{stack}
use Rattle.def_pass.specs.Scope.{place_or}
use Rattle.scope_find.specs.Look.{bound_here}
use Rattle.scope_declare.specs.Inits.{place_here}
use Rattle.scope_declare.proofs.place_here.Goals as goal

pub returns-in-Some : goal.returns-in-Some
returns-in-Some c =
    let st = stack c.args.w.now in
    let e : c.in-Some.j ≡ place_here c.args.x st = sym (ap (place_or (bound_here st)) c.in-Some.ensures) in
    (e, omega (arith, e, init.place-le c.args.x st, init.count-le c.args.w.now c.requires))

pub returns-in-None : goal.returns-in-None
returns-in-None c =
    let st = stack c.args.w.now in
    let e : c.bound_here.result ≡ place_here c.args.x st = c.bound_here.ensures ∙ sym (ap (place_or (bound_here st)) c.in-None.ensures) in
    (e, omega (arith, c.bound_here.ensures, init.count-le c.args.w.now c.requires))

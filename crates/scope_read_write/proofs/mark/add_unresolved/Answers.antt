-- A bit of the current scope. Assumes nothing.
use mathlib.Core.Path.{◌≡◌, refl, sym}
use native.Mathlib.Omega.{arith}
use Rattle.def_pass.specs.Scope.{add_unresolved}
use Rattle.words_scopes.specs.State.{stack}
use Rattle.words_scopes.proofs.Words as words
use Rattle.scope_find.proofs.Touch as touch
use Rattle.scope_find.proofs.Out as out
use Rattle.scope_read_write.proofs.mark.add_unresolved.Goals as goal

pub returns-in_default : goal.returns-in_default
returns-in_default c =
    let w = c.args.w.now in
    let e : stack w ≡ add_unresolved c.args.x (stack w) = rw (out.none-open w (sym c.in_default.ensures)) refl in
    record { good = c.requires; is = e; tree = refl; others = words.others-self w; rest = refl }

pub returns : goal.returns
returns c = touch.unresolved c.args.w.now c.set_flag.new.w c.requires c.args.x (omega arith) c.in-Some.d c.in-Some.ensures c.set_flag.ensures

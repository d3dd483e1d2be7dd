-- idx_val of both, and the barriers between them. Assumes nothing.
use mathlib.Core.Path.{sym, ap, ◌∙◌}
use mathlib.Core.Bool.{◌||◌}
use mathlib.Core.Option.{Option}
use Prim.Native.Nat.{ℕ}
use lib.Dec.{ltb}
use Rattle.words_scopes.specs.State.{stack}
use Rattle.def_pass.specs.Scope.{VarInfo, barred, between}
use Rattle.scope_find.specs.Look.{bars_here}
use Rattle.scope_declare.specs.Inits.{place_here}
use Rattle.scope_declare.proofs.barred_here.Goals as goal

pub returns : goal.returns
returns c =
    let st = stack c.args.w.now in
    let j = c.in-Some.j in
    c.barred.ensures ∙ ap (λ (n : ℕ). ltb n j || between j n (bars_here st)) c.place_here-idx.ensures.0 ∙ sym (ap (λ (o : Option (ℕ × VarInfo)). barred o (place_here c.args.x st) (bars_here st)) c.in-Some.ensures)

-- declare without an init names no binding. Assumes nothing.
use mathlib.Core.Path.{◌≡◌, refl, ◌∙◌}
use mathlib.Core.Bool.{◌||◌}
use Rattle.def_pass.specs.Scope.{in_loop, should_prevent_inline_because_of_scope}
use Rattle.scope_declare.proofs.Init as init
use Rattle.words_scopes.specs.State.{stack}
use Rattle.words_scopes.specs.Kinds.{type_of}
use Rattle.scope_declare.proofs.declare_bare.Goals as goal
use Rattle.scope_declare.proofs.declare_bare.Goals.{then-again, else-again}

pub declare_with-requires : goal.declare_with-requires
declare_with-requires c = (c.requires.good, init.offered_none c.args.w.now, tt)

pub returns : goal.returns
returns c =
    let st = stack c.args.w.now in
    let p : c.if-again.prevented ≡ (c.args.again || should_prevent_inline_because_of_scope c.args.x st) = elim c.if-again.branch [
      | then-again v ↦ v.prevented-is ∙ rw v.if-again.true refl
      | else-again v ↦ rw v.if-again.false (v.prevented-is ∙ v.should_prevent_inline_because_of_scope-prevented.ensures)
    ] in
    let e = rw c.plain-d.ensures at c.declare_with.ensures in
    rw (init.bare-is c.args.again c.args.x c.args.undefined (type_of c.args.kind) st c.if-again.prevented (in_loop st) p refl) at e

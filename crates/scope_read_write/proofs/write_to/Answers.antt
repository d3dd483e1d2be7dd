-- By the scope found. Assumes nothing.
use Rattle.std.proofs.Common.{◌≡◌, Bool, true, false, not, ◌&&◌, ◌||◌, sym, ap, ◌∙◌}
use Rattle.def_pass.specs.Scope.{scope_for}
use Rattle.words_scopes.specs.State.{stack}
use Rattle.scope_read_write.proofs.Again as again
use Rattle.scope_find.specs.Answers.{write_to}
use Rattle.scope_read_write.specs.Writes.{forced}
use Rattle.scope_values.proofs.Listed.{done-under}
use Rattle.scope_read_write.proofs.write_to.Goals as goal
use Rattle.scope_read_write.proofs.write_to.Goals.{then-not-s, else-not-s, then-far, else-far}

pub returns-then-s : goal.returns-then-s
returns-then-s c =
    let w = c.args.w.now in
    let x = c.args.x in
    let force = forced c.args.how in
    let m = c.args.marked in
    let here = c.scope_for-s.result.current in
    let e : (scope_for true x (stack w)).0 ≡ true = sym c.scope_for-s.ensures.0 ∙ c.if-s.true in
    let marks : c.if-far.write_bound ≡ ((not here || c.is_forced-force.result) && not m) = elim c.if-not-s.branch [
      | then-not-s u ↦ elim c.if-far.branch [
        | then-far v ↦ rw u.if-not-s.true v.write_bound-is
        | else-far v ↦ let z : not here ≡ false = sym u.far-is ∙ v.if-far.false in let y : true ≡ false = rw u.if-not-s.true at z in cc
      ]
      | else-not-s u ↦ elim c.if-far.branch [
        | then-far v ↦ rw (u.if-not-s.false, sym u.far-is ∙ v.if-far.true) v.write_bound-is
        | else-far v ↦ rw (u.if-not-s.false, sym u.far-is ∙ v.if-far.false) (v.write_bound-is ∙ v.if-far.false)
      ]
    ] in
    let far : Bool = not (scope_for true x (stack w)).1 || force in
    let after = rw (marks ∙ ap (λ (f : Bool). (not here || f) && not m) c.is_forced-force.ensures ∙ ap (λ (h : Bool). (not h || force) && not m) c.scope_for-s.ensures.1) at c.write_bound.ensures in
    done-under {w = w} {st = write_to x force (stack w)} (rw (e, sym (again.not-again x far m (stack w) c.requires.1)) after)

pub returns : goal.returns
returns c =
    let e : (scope_for true c.args.x (stack c.args.w.now)).0 ≡ false = sym c.scope_for-s.ensures.0 ∙ c.if-s.false in
    rw e c.write_free.ensures

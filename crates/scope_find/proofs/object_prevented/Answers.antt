-- The first child is the next node. Assumes nothing.
use Rattle.std.proofs.Common.{ℕ, sym, ap, ◌∙◌, inr}
use mathlib.Core.Option.{Option}
use Rattle.def_file.specs.Named.{kind_of}
use Rattle.def_pass.specs.Scope.{mark_of, mark_of_id, find_binding}
use Rattle.words_scopes.specs.State.{stack}
use Rattle.scope_find.proofs.Facts as facts
use Rattle.scope_find.proofs.object_prevented.Goals as goal
use Rattle.scope_find.proofs.object_prevented.Goals.{then-arity_at-eq0-via-then-arity_at-eq0, then-arity_at-eq0-via-else-arity_at-eq0+then-w-i}

pub returns-then-arity_at-eq0 : goal.returns-then-arity_at-eq0
returns-then-arity_at-eq0 c =
    let w = c.args.w.now in
    let i = c.args.i in
    let l = c.requires.1 in
    sym (ap (λ (o : Option ℕ). mark_of_id o (stack w)) (elim c.then-arity_at-eq0.branch [
      | then-arity_at-eq0-via-then-arity_at-eq0 v ↦ facts.object-none w i l (sym c.arity_at.ensures ∙ v.if-arity_at-eq0.true)
      | then-arity_at-eq0-via-else-arity_at-eq0+then-w-i v ↦ facts.object-end w i l v.if-w-i.true
    ]))

pub ident_at-requires : goal.ident_at-requires
ident_at-requires c = ((c.requires.0, c.if-w-i.false), inr (rw c.in-Ident.is at c.kind_at.ensures.1))

pub returns-in-Ident : goal.returns-in-Ident
returns-in-Ident c =
    let w = c.args.w.now in
    c.ident_prevented.ensures ∙ ap (λ (x : ℕ). mark_of (find_binding x (stack w))) c.ident_at.ensures
    ∙ sym (ap (λ (o : Option ℕ). mark_of_id o (stack w)) (facts.object-is w c.args.i c.requires.1 (λ z. c.if-arity_at-eq0.false (c.arity_at.ensures ∙ z)) c.if-w-i.false (rw c.in-Ident.is at c.kind_at.ensures.1)))

pub returns-in_default : goal.returns-in_default
returns-in_default c =
    let w = c.args.w.now in
    let other = facts.object-other w c.args.i c.requires.1 (λ z. c.if-arity_at-eq0.false (c.arity_at.ensures ∙ z)) c.if-w-i.false (λ e. c.in_default.not-Ident (c.kind_at.ensures.0 ∙ ap kind_of e)) in
    sym (ap (λ (o : Option ℕ). mark_of_id o (stack w)) other)

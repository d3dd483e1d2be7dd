-- By its kind and its parameters. Assumes nothing.
use Rattle.std.proofs.Common.{refl, sym, ◌∙◌}
use Rattle.words_contexts.proofs.Opened.{role-of}
use Rattle.words_contexts.proofs.scopes.last_role.Goals.{else-is_catch-via-then-is_catch+else-not-defaults, else-is_catch-via-else-is_catch}
use Rattle.words_contexts.proofs.scopes.last_role.Goals as goal

pub returns-then-defaults : goal.returns-then-defaults
returns-then-defaults c = role-of c.requires.0 c.requires.1 (sym (c.is_function.ensures _ c.kind_at-kind.ensures.1) ∙ c.if-is_function.true) refl (sym c.defaults.ensures ∙ c.if-defaults.true) refl

pub returns-else-defaults : goal.returns-else-defaults
returns-else-defaults c = role-of c.requires.0 c.requires.1 (sym (c.is_function.ensures _ c.kind_at-kind.ensures.1) ∙ c.if-is_function.true) refl (sym c.defaults.ensures ∙ c.if-defaults.false) refl

pub returns-then-not-defaults : goal.returns-then-not-defaults
returns-then-not-defaults c = role-of c.requires.0 c.requires.1 (sym (c.is_function.ensures _ c.kind_at-kind.ensures.1) ∙ c.if-is_function.false) (sym (c.is_catch.ensures _ c.kind_at-kind.ensures.1) ∙ c.if-is_catch.true) (sym c.defaults-then-is_catch.ensures ∙ c.if-not-defaults.true) refl

pub returns-else-is_catch : goal.returns-else-is_catch
returns-else-is_catch c =
    let no = sym (c.is_function.ensures _ c.kind_at-kind.ensures.1) ∙ c.if-is_function.false in
    elim c.else-is_catch.branch [
      | else-is_catch-via-then-is_catch+else-not-defaults w ↦ role-of c.requires.0 c.requires.1 no (sym (c.is_catch.ensures _ c.kind_at-kind.ensures.1) ∙ w.if-is_catch.true) (sym w.defaults-then-is_catch.ensures ∙ w.if-not-defaults.false) refl
      | else-is_catch-via-else-is_catch w ↦ role-of c.requires.0 c.requires.1 no (sym (c.is_catch.ensures _ c.kind_at-kind.ensures.1) ∙ w.if-is_catch.false) refl refl
    ]

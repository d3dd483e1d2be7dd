-- By the number of trees, and the kind of the first. Assumes nothing.
use Rattle.std.proofs.Common.{refl, ap, ◌∙◌}
use Rattle.def_file.specs.Named.{kind_of}
use Rattle.walk_laws.proofs.Declrs as declrs
use Rattle.walk_laws.proofs.Heres as heres
use Rattle.walk_answer.proofs.steps.nameless.Goals as goal

pub kind_at-requires : goal.kind_at-requires
kind_at-requires c = heres.at-node (heres.here-one c.if-n-eq0.false c.requires)

pub returns-then-n-eq0 : goal.returns-then-n-eq0
returns-then-n-eq0 c = declrs.headed-none c.requires c.if-n-eq0.true

pub returns-in-BindingIdent : goal.returns-in-BindingIdent
returns-in-BindingIdent c = declrs.headed-name c.requires c.if-n-eq0.false refl (rw c.in-BindingIdent.is at c.kind_at.ensures.1)

pub returns-in_default : goal.returns-in_default
returns-in_default c = declrs.headed-other c.requires c.if-n-eq0.false refl (λ e. c.in_default.not-BindingIdent (c.kind_at.ensures.0 ∙ ap kind_of e))

-- Kind and form, then the children. Assumes nothing.
use Rattle.std.proofs.Common.{sym, ap, ◌∙◌}
use Rattle.def_file.specs.Named.{kind_of}
use Rattle.words_twice.proofs.Looks as looks
use Rattle.words_twice.proofs.var_at.Goals as goal

pub returns-in_default : goal.returns-in_default
returns-in_default c = looks.own-other c.requires.0 c.requires.1 (λ e. c.in_default.not-VarDecl (c.kind_at.ensures.0 ∙ ap kind_of e)) c.requires.2

pub declarators-requires : goal.declarators-requires
declarators-requires c = (c.requires.0, rw c.arity_at-n.ensures (looks.kids-stand c.requires.0 c.requires.1), c.requires.2)

pub returns-then-form_at-eq-VAR : goal.returns-then-form_at-eq-VAR
returns-then-form_at-eq-VAR c = looks.own-var c.requires.0 c.requires.1 (rw c.in-VarDecl.is at c.kind_at.ensures.1) (sym c.form_at.ensures ∙ c.if-form_at-eq-VAR.true) c.arity_at-n.ensures c.declarators.ensures

pub returns-else-form_at-eq-VAR : goal.returns-else-form_at-eq-VAR
returns-else-form_at-eq-VAR c = looks.own-let c.requires.0 c.requires.1 (rw c.in-VarDecl.is at c.kind_at.ensures.1) (λ e. c.if-form_at-eq-VAR.false (c.form_at.ensures ∙ e)) c.requires.2

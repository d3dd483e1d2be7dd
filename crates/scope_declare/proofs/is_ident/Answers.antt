-- A tree's kind is that of its first node. Assumes nothing.
use mathlib.Core.Path.{sym, ap, ◌∙◌}
use borrow.Author.Tests.{eq-eqb, ne_eqb}
use Rattle.def_file.specs.Named.{kind_of}
use Rattle.words.specs.Layout.{node_of}
use Rattle.scope_declare.proofs.Init as init
use Rattle.scope_declare.proofs.is_ident.Goals as goal

pub returns-in-Ident : goal.returns-in-Ident
returns-in-Ident c = rw (init.from-kind c.args.w.now c.args.i c.requires.1) (sym (eq-eqb (node_of c.args.w.now c.args.i).kind 21 (rw c.in-Ident.is at c.kind_at.ensures.1)))

pub returns-in_default : goal.returns-in_default
returns-in_default c = rw (init.from-kind c.args.w.now c.args.i c.requires.1) (sym (ne_eqb (node_of c.args.w.now c.args.i).kind 21 (λ e. c.in_default.not-Ident (c.kind_at.ensures.0 ∙ ap kind_of e))))

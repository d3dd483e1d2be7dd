-- By the phase, and by what the callee is. Assumes nothing.
use Rattle.std.proofs.Common.{◌≡◌, sym, ap, ◌∙◌}
use mathlib.Core.Option.{some}
use Rattle.def_file.specs.Named.{kind_of}
use Rattle.words.specs.Layout.{node_of}
use Rattle.walk_write.proofs.Marks.{ident-some, callee-off, callee-other, callee-on}
use Rattle.walk_write.proofs.mark_callee.Goals as goal

pub returns-then-inlining : goal.returns-then-inlining
returns-then-inlining c = callee-off c.args.w.now c.args.i c.requires.1 c.requires.0 (sym c.inlining.ensures ∙ c.if-inlining.true)

pub returns-in_default : goal.returns-in_default
returns-in_default c = callee-other c.args.i c.requires.1 c.requires.0 (sym c.inlining.ensures ∙ c.if-inlining.false) (λ (e : (node_of c.args.w.now c.args.i).kind ≡ 21). c.in_default.not-Ident (c.kind_at.ensures.0 ∙ ap kind_of e))

pub returns : goal.returns
returns c = callee-on c.args.w.now c.args.i c.requires.1 (some c.ident_at-x.result) c.requires.0 (sym c.inlining.ensures ∙ c.if-inlining.false) (ident-some c.args.w.now c.args.i c.requires.1 (rw c.in-Ident.is at c.kind_at.ensures.1) c.ident_at-x.ensures) c.mark_this_sensitive.ensures

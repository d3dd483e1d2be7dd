-- The target of one node. Assumes nothing.
use Rattle.std.proofs.Common.{arith, sym, ap, ◌∙◌, inr}
use Rattle.def_file.specs.Named.{kind_of}
use Rattle.words_targets.proofs.Targets as laws
use Rattle.words_targets.proofs.scan_node.Goals.{then-not-aims-via-then-not-aims, then-not-aims-via-else-not-aims+then-arity_at-eq0}
use Rattle.words_targets.proofs.scan_node.Goals as goal

pub kind_at-requires : goal.kind_at-requires
kind_at-requires c = (c.requires.0.long, omega (arith, c.requires.0.few, c.requires.1))

pub arity_at-requires : goal.arity_at-requires
arity_at-requires c = (c.requires.0.long, omega (arith, c.requires.0.few, c.requires.1))

pub overflow_add-k : goal.overflow_add-k
overflow_add-k c = omega (arith, c.requires.0.few, c.requires.1)

pub returns-then-not-aims : goal.returns-then-not-aims
returns-then-not-aims c = elim c.then-not-aims.branch [
  | then-not-aims-via-then-not-aims b ↦ laws.none-aimed c.args.w.now c.args.k (sym (c.aims.ensures _ c.kind_at.ensures.1) ∙ b.if-not-aims.true)
  | then-not-aims-via-else-not-aims+then-arity_at-eq0 b ↦ laws.none-there c.args.w.now c.args.k (sym b.arity_at.ensures ∙ b.if-arity_at-eq0.true)
]

pub put_name-requires : goal.put_name-requires
put_name-requires c = (c.requires.0, c.in-Some.ensures.0, laws.number-low c.requires.0 c.in-Some.j c.in-Some.ensures.0 (inr (rw c.in-Ident.is at c.kind_at-in-Some.ensures.1)))

pub returns-in-Ident : goal.returns-in-Ident
returns-in-Ident c = laws.ident-hit c.args.w.now c.args.k (sym (c.aims.ensures _ c.kind_at.ensures.1) ∙ c.if-not-aims.false) (λ e. c.if-arity_at-eq0.false (c.arity_at.ensures ∙ e)) c.in-Some.ensures (rw c.in-Ident.is at c.kind_at-in-Some.ensures.1) c.put_name.ensures

pub returns-in_default-kind_at : goal.returns-in_default-kind_at
returns-in_default-kind_at c = laws.bound-hit c.args.w.now c.args.k (sym (c.aims.ensures _ c.kind_at.ensures.1) ∙ c.if-not-aims.false) (λ e. c.if-arity_at-eq0.false (c.arity_at.ensures ∙ e)) c.in-Some.ensures (λ e. c.in_default-kind_at.not-Ident (c.kind_at-in-Some.ensures.0 ∙ ap kind_of e)) c.put_bound.ensures

pub returns-in_default : goal.returns-in_default
returns-in_default c = laws.none-hit c.args.w.now c.args.k (sym (c.aims.ensures _ c.kind_at.ensures.1) ∙ c.if-not-aims.false) (λ e. c.if-arity_at-eq0.false (c.arity_at.ensures ∙ e)) c.in_default.ensures

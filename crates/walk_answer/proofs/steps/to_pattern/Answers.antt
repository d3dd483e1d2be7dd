-- By the form, the number of children and the first child's kind. Assumes nothing.
use native.Mathlib.Omega.{arith}
use Rattle.walk_laws.proofs.Heres as heres
use Rattle.walk_laws.proofs.Shorts as shorts
use Rattle.walk_answer.proofs.steps.to_pattern.Goals as goal
use Rattle.walk_answer.proofs.steps.to_pattern.Goals.{then-form_at-ne-ASSIGN-via-then-form_at-ne-ASSIGN, then-form_at-ne-ASSIGN-via-else-form_at-ne-ASSIGN+then-arity_at-eq0}

pub form_at-requires : goal.form_at-requires
form_at-requires c = heres.at-node c.requires

pub arity_at-requires : goal.arity_at-requires
arity_at-requires c = heres.at-node c.requires

pub returns-then-form_at-ne-ASSIGN : goal.returns-then-form_at-ne-ASSIGN
returns-then-form_at-ne-ASSIGN c = elim c.then-form_at-ne-ASSIGN.branch [
  | then-form_at-ne-ASSIGN-via-then-form_at-ne-ASSIGN d ↦ shorts.pattern-form c.requires c.form_at.ensures d.if-form_at-ne-ASSIGN.true
  | then-form_at-ne-ASSIGN-via-else-form_at-ne-ASSIGN+then-arity_at-eq0 d ↦ shorts.pattern-none c.requires d.arity_at.ensures d.if-arity_at-eq0.true
]

pub overflow_add-i : goal.overflow_add-i
overflow_add-i c = omega (arith, (heres.at-node c.requires).1)

pub kind_at-requires : goal.kind_at-requires
kind_at-requires c = heres.at-node (shorts.pattern-child c.requires c.arity_at.ensures c.if-arity_at-eq0.false)

pub returns : goal.returns
returns c = shorts.pattern-by c.requires c.arity_at.ensures c.form_at.ensures c.if-form_at-ne-ASSIGN.false c.if-arity_at-eq0.false (c.is_pattern.ensures _ c.kind_at.ensures.1)

-- Down the first children of declarations and declarators. Assumes nothing.
use Rattle.std.proofs.Common.{List, ap, ◌∙◌, arith}
use Rattle.def_file.specs.Named.{kind_of}
use Rattle.def_tree.specs.Tree.{Core}
use Rattle.laws_flat.specs.PassF.{next_is}
use Rattle.words_targets.proofs.Targets as laws
use Rattle.words_targets.proofs.aimed_at.Goals as goal

pub returns-then-arity_at-eq0 : goal.returns-then-arity_at-eq0
returns-then-arity_at-eq0 c = laws.aimed-bare c.args.w.now c.args.j c.loop-k.k c.loop-k.invariant c.loop-k-test.true c.arity_at.ensures (laws.first-number c.in-VarDecl.is c.kind_at.ensures.1) c.if-arity_at-eq0.true

pub returns-in_default : goal.returns-in_default
returns-in_default c =
    let by = c.kind_at.ensures.0 in
    laws.aimed-here c.args.w.now c.args.j c.loop-k.k c.loop-k.invariant c.loop-k-test.true (λ e. c.in_default.not-VarDecl (by ∙ ap kind_of e)) (λ e. c.in_default.not-VarDeclarator (by ∙ ap kind_of e))

pub loop-k-preserved : goal.loop-k-preserved
loop-k-preserved c = laws.aimed-first c.args.w.now c.args.j c.loop-k.k c.loop-k.invariant c.loop-k-test.true c.arity_at.ensures (laws.first-number c.in-VarDecl.is c.kind_at.ensures.1) c.if-arity_at-eq0.false

pub returns : goal.returns
returns c = λ i. c.loop-k.invariant i ∙ ap (λ (xs : List Core). next_is i xs) (laws.no-next c.args.w.now c.loop-k.k (omega arith))

-- By the phase, and by what the first child is. Assumes nothing.
use Rattle.std.proofs.Common.{◌≡◌, ◌+◌, sym, ap, ◌∙◌, inl, arith}
use Rattle.def_file.specs.Named.{kind_of}
use Rattle.words.specs.Layout.{node_of}
use Rattle.scope_values.proofs.Listed.{grown-kept}
use Rattle.walk_write.proofs.Shapes.{no-child, child-here, child-in}
use Rattle.walk_write.proofs.Declares.{declare-none, declare-other, declare-off, declare-on}
use Rattle.walk_write.proofs.declared.declare_name.Goals as goal
use Rattle.walk_write.proofs.declared.declare_name.Goals.{then-arity_at-eq0-via-then-arity_at-eq0, then-arity_at-eq0-via-else-arity_at-eq0+then-inlining}

pub kind_at-requires : goal.kind_at-requires
kind_at-requires c = (c.requires.0.good.long, omega (arith, child-in c.requires.0 c.args.i c.requires.1 c.arity_at.ensures c.if-arity_at-eq0.false, c.requires.0.good.nodes))

pub returns-then-arity_at-eq0-clause-did : goal.returns-then-arity_at-eq0-clause-did
returns-then-arity_at-eq0-clause-did c =
    let g = c.requires.0 in
    let i = c.args.i in
    let l = c.requires.1 in
    let a = c.arity_at.ensures in
    elim c.then-arity_at-eq0.branch [
      | then-arity_at-eq0-via-then-arity_at-eq0 d ↦ declare-none i g (no-child g i l a d.if-arity_at-eq0.true)
      | then-arity_at-eq0-via-else-arity_at-eq0+then-inlining d ↦
          let z = d.if-arity_at-eq0.false in
          declare-off i g (child-in g i l a z) (child-here g i l a z) (sym d.inlining.ensures ∙ d.if-inlining.true)
    ]

pub returns-in_default-clause-did : goal.returns-in_default-clause-did
returns-in_default-clause-did c =
    let g = c.requires.0 in
    let i = c.args.i in
    let l = c.requires.1 in
    let a = c.arity_at.ensures in
    let z = c.if-arity_at-eq0.false in
    declare-other i g (child-in g i l a z) (child-here g i l a z) (λ (e : (node_of c.args.w.now (i + 1)).kind ≡ 20). c.in_default.not-BindingIdent (c.kind_at.ensures.0 ∙ ap kind_of e))

pub name_at-name-requires : goal.name_at-name-requires
name_at-name-requires c = ((c.requires.0.good, child-in c.requires.0 c.args.i c.requires.1 c.arity_at.ensures c.if-arity_at-eq0.false), inl (rw c.in-BindingIdent.is at c.kind_at.ensures.1))

pub returns-clause-did : goal.returns-clause-did
returns-clause-did c = declare-on c.args.i c.requires.0 (child-in c.requires.0 c.args.i c.requires.1 c.arity_at.ensures c.if-arity_at-eq0.false) (child-here c.requires.0 c.args.i c.requires.1 c.arity_at.ensures c.if-arity_at-eq0.false) (rw c.in-BindingIdent.is at c.kind_at.ensures.1) c.name_at-name.result.form c.name_at-name.result.ident c.declare.result (sym c.inlining.ensures ∙ c.if-inlining.false) c.name_at-name.ensures.1 c.name_at-name.ensures.0 (rw c.twice.ensures at c.declare.ensures)

pub returns-clause-kept : goal.returns-clause-kept
returns-clause-kept c = grown-kept c.args.w.now c.declare.new.w _ c.declare.result c.declare.ensures

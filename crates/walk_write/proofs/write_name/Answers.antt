-- By what the first child is. Assumes nothing.
use Rattle.std.proofs.Common.{◌≡◌, ◌+◌, ap, ◌∙◌, inl, arith}
use Rattle.def_file.specs.Named.{kind_of}
use Rattle.words.specs.Layout.{node_of}
use Rattle.walk_write.proofs.Shapes.{no-child, child-here, child-in, name-none, name-other, name-written}
use Rattle.walk_write.proofs.write_name.Goals as goal

pub kind_at-requires : goal.kind_at-requires
kind_at-requires c = (c.requires.0.good.long, omega (arith, child-in c.requires.0 c.args.i c.requires.1 c.arity_at.ensures c.if-arity_at-eq0.false, c.requires.0.good.nodes))

pub returns-then-arity_at-eq0 : goal.returns-then-arity_at-eq0
returns-then-arity_at-eq0 c = name-none c.args.i c.requires.0 (no-child c.requires.0 c.args.i c.requires.1 c.arity_at.ensures c.if-arity_at-eq0.true)

pub returns-in_default : goal.returns-in_default
returns-in_default c =
    let g = c.requires.0 in
    let i = c.args.i in
    let l = c.requires.1 in
    let a = c.arity_at.ensures in
    let z = c.if-arity_at-eq0.false in
    name-other i (child-in g i l a z) (child-here g i l a z) g (λ (e : (node_of c.args.w.now (i + 1)).kind ≡ 20). c.in_default.not-BindingIdent (c.kind_at.ensures.0 ∙ ap kind_of e))

pub write_ident-requires : goal.write_ident-requires
write_ident-requires c = (c.requires.0, child-in c.requires.0 c.args.i c.requires.1 c.arity_at.ensures c.if-arity_at-eq0.false, inl (rw c.in-BindingIdent.is at c.kind_at.ensures.1))

pub returns : goal.returns
returns c = name-written c.args.i (child-in c.requires.0 c.args.i c.requires.1 c.arity_at.ensures c.if-arity_at-eq0.false) (child-here c.requires.0 c.args.i c.requires.1 c.arity_at.ensures c.if-arity_at-eq0.false) (rw c.in-BindingIdent.is at c.kind_at.ensures.1) c.write_ident.ensures

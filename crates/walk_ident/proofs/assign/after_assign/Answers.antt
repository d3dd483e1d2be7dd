-- By the parts of the node and its test. Assumes nothing.
use Rattle.std.proofs.Common.{◌<◌, sym, ap, ◌∙◌, inl, arith}
use Rattle.def_file.specs.Named.{kind_of}
use Rattle.walk_ident.proofs.Assigns as assigns
use Rattle.words.specs.Layout.{node_of}
use Rattle.walk_ident.proofs.assign.after_assign.Goals as goal
use Rattle.walk_ident.proofs.assign.after_assign.Goals.{Else-arity_at-lt2}

has-two : (c : Else-arity_at-lt2) → 1 < (node_of c.args.w.now c.args.i).arity
has-two c = omega (arith, c.arity_at.ensures, c.if-arity_at-lt2.false)

pub kind_at-requires : goal.kind_at-requires
kind_at-requires c =
    let h = has-two (goal.at.kind_at-requires c).Else-arity_at-lt2 in
    (c.requires.0.good.long, omega (arith, c.requires.0.good.nodes, assigns.target-in c.requires.0 c.args.i c.requires.1 h))

pub returns-then-arity_at-lt2 : goal.returns-then-arity_at-lt2
returns-then-arity_at-lt2 c = assigns.goes-past c.args.i c.requires.0 (assigns.assign-few c.requires.0 c.args.i c.requires.1 c.args.p (omega (arith, c.arity_at.ensures, c.if-arity_at-lt2.true))) c.skip.ensures.0

pub returns-in_default : goal.returns-in_default
returns-in_default c =
    let h = has-two (goal.at.returns-in_default c).Else-arity_at-lt2 in
    assigns.goes-past c.args.i c.requires.0 (assigns.assign_other c.requires.0 c.args.i c.requires.1 h c.args.p (λ e. c.in_default.not-BindingIdent (c.kind_at.ensures.0 ∙ ap kind_of e))) c.skip-in_default.ensures.0

pub ident_at-x-requires : goal.ident_at-x-requires
ident_at-x-requires c =
    let h = has-two (goal.at.ident_at-x-requires c).Else-arity_at-lt2 in
    let e = rw c.in-BindingIdent.is at c.kind_at.ensures.1 in
    ((c.requires.0.good, assigns.target-in c.requires.0 c.args.i c.requires.1 h), inl e)

pub skip-j-requires : goal.skip-j-requires
skip-j-requires c =
    let h = has-two (goal.at.skip-j-requires c).Else-arity_at-lt2 in
    (c.requires.0, assigns.target-in c.requires.0 c.args.i c.requires.1 h)

pub first_here-requires : goal.first_here-requires
first_here-requires c =
    let h = has-two (goal.at.first_here-requires c).Else-arity_at-lt2 in
    (c.requires.0.good, omega (arith, c.skip-j.ensures.0, assigns.value_in c.requires.0 c.args.i c.requires.1 h))

pub first_assigned-requires : goal.first_assigned-requires
first_assigned-requires c =
    let h = has-two (goal.at.first_assigned-requires c).Else-arity_at-lt2 in
    (c.requires.0, rw c.skip-j.ensures.0 (assigns.value-child c.requires.0 c.args.i c.requires.1 h), c.requires.2)

pub returns-then-first_here : goal.returns-then-first_here
returns-then-first_here c =
    let h = has-two (goal.at.returns-then-first_here c).Else-arity_at-lt2 in
    let e = rw c.in-BindingIdent.is at c.kind_at.ensures.1 in
    assigns.goes-as (assigns.assign-first c.requires.0 c.args.i c.requires.1 h c.args.p e c.ident_at-x.result c.ident_at-x.ensures c.skip-j.result c.skip-j.ensures.0 (sym c.first_here.ensures ∙ c.if-first_here.true)) c.first_assigned.ensures

pub returns : goal.returns
returns c =
    let h = has-two (goal.at.returns c).Else-arity_at-lt2 in
    let e = rw c.in-BindingIdent.is at c.kind_at.ensures.1 in
    assigns.goes-past c.args.i c.requires.0 (assigns.assign-not c.requires.0 c.args.i c.requires.1 h c.args.p e c.ident_at-x.result c.ident_at-x.ensures c.skip-j.result c.skip-j.ensures.0 (sym c.first_here.ensures ∙ c.if-first_here.false)) c.skip-2.ensures.0

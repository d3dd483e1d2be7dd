-- Assumes nothing.
use Rattle.std.proofs.Common.{List, ap, sym, ◌∙◌, subst, arith}
use Rattle.def_file.specs.declared.Raw.{Raw}
use Rattle.def_file.specs.declared.kind.Kind.{Kind}
use Rattle.def_file.specs.Named.{Coded, kind_of}
use Rattle.def_text.specs.Words.{Word}
use Rattle.text_choice.specs.declared.opening.Beginning.TheVariants as Beginnings
use Rattle.text_choice.specs.Choice.{Opens}
use Rattle.text_choice.proofs.Openings.{opens-nothing, first-none, first-in, first-object, first-other}
use Rattle.text_choice.proofs.opening.opening_first.Goals as goal

pub returns-then-node-eq0 : goal.returns-then-node-eq0
returns-then-node-eq0 c =
    let s = c.args.nodes in
    subst (λ (ws : List Word). Opens Beginnings.Other ws) (sym (first-none s.file.now s.header c.args.k (ap (λ (r : Raw). r.arity) (sym c.node.ensures) ∙ c.if-node-eq0.true))) opens-nothing

pub node-requires-2 : goal.node-requires-2
node-requires-2 c =
    let s = c.args.nodes in
    first-in s.file.now s.header s.readable c.args.k c.requires (omega (arith, ap (λ (r : Raw). r.arity) c.node.ensures, c.if-node-eq0.false))

pub returns-in-ObjectPat : goal.returns-in-ObjectPat
returns-in-ObjectPat c =
    let s = c.args.nodes in
    first-object s.file.now s.header s.readable c.args.k c.requires (omega (arith, ap (λ (r : Raw). r.arity) c.node.ensures, c.if-node-eq0.false))
    (ap (λ (r : Raw). r.kind) (sym c.node-2.ensures) ∙ subst (λ (q : Kind). Coded q c.node-2.result.kind) c.in-ObjectPat.is c.from.ensures.1)

pub returns-in_default : goal.returns-in_default
returns-in_default c =
    let s = c.args.nodes in
    first-other s.file.now s.header s.readable c.args.k c.requires (omega (arith, ap (λ (r : Raw). r.arity) c.node.ensures, c.if-node-eq0.false))
    (λ e. c.in_default.not-ObjectPat (c.from.ensures.0 ∙ ap (λ (r : Raw). kind_of r.kind) c.node-2.ensures ∙ ap kind_of e))

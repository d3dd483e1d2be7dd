-- The identifier that a value is, by its first node. Assumes nothing.
use Rattle.std.proofs.Common.{ap, ◌∙◌, pos_of_ne-zero}
use Rattle.def_file.specs.Named.{kind_of}
use Rattle.words_scopes.proofs.Words as laws
use Rattle.words_scopes.proofs.named.Goals as goal

pub returns-then-w-k-eq0 : goal.returns-then-w-k-eq0
returns-then-w-k-eq0 c = laws.named_none c.args.w.now c.args.k c.if-w-k-eq0.true

pub returns-in_default : goal.returns-in_default
returns-in_default c = laws.named_other c.args.w.now c.args.k c.args.at (pos_of_ne-zero c.if-w-k-eq0.false) c.requires.1 (λ e. c.in_default.not-Ident (c.node_at-x.ensures.0.0 ∙ ap kind_of e))

pub returns : goal.returns
returns c = rw c.node_at-x.ensures.3 (laws.named-ident c.args.w.now c.args.k c.args.at (pos_of_ne-zero c.if-w-k-eq0.false) c.requires.1 (rw c.in-Ident.is at c.node_at-x.ensures.0.1))

-- An identifier by the node that its entry names, or none. Assumes nothing.
use Rattle.std.proofs.Common.{◌∙◌, arith}
use Rattle.pass_roots.proofs.Rooted as rooted
use Rattle.pass_roots.proofs.Passed.ident.Goals as goal

pub returns-then-self-i : goal.returns-then-self-i
returns-then-self-i c = rooted.no-ident c.args.self.file.now c.args.self.words.now c.args.i c.if-self-i.true

pub returns : goal.returns
returns c = c.node_at.ensures ∙ rooted.some-ident c.args.self.file.now c.args.self.words.now c.args.i (omega (arith, c.if-self-i.false))

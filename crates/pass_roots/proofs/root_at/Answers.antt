-- The root binding of a number. Assumes nothing.
use Rattle.pass_roots.proofs.Rooted as rooted
use Rattle.pass_roots.proofs.root_at.Goals as goal
use Rattle.std.proofs.Common.{ap, ◌∙◌, arith, Some}

pub returns-then-root_count-n : goal.returns-then-root_count-n
returns-then-root_count-n c = rooted.nth-out c.args.file.now c.args.words.now c.root_count.result c.root_count.ensures.0 c.args.n c.if-root_count-n.true

pub returns : goal.returns
returns c = ap Some c.read_root.ensures ∙ rooted.nth_in c.args.file.now c.args.words.now c.root_count.result c.root_count.ensures.0 c.args.n (omega (arith, c.if-root_count-n.false))

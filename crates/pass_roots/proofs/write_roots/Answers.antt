-- The room, and all root bindings. Assumes nothing.
use native.Mathlib.Omega.{arith}
use Rattle.pass_roots.proofs.Rooted as rooted
use Rattle.pass_roots.proofs.write_roots.Goals as goal

pub returns-then-roots-n : goal.returns-then-roots-n
returns-then-roots-n c = rooted.roots-short c.args.file.now c.args.words.now c.root_count-n.result c.root_count-n.ensures.0 c.args.roots.now c.if-roots-n.true

pub returns : goal.returns
returns c = rooted.roots-wrote c.args.file.now c.args.words.now c.root_count-n.result c.root_count-n.ensures.0 c.args.roots.now _ (omega (arith, c.if-roots-n.false)) c.put_roots.ensures

-- Number by number. Assumes nothing.
use Rattle.std.proofs.Common.{◌+◌, get_or, refl, arith}
use Rattle.file_resolve.proofs.Keys.{none-noted, noted-next, noted-all}
use Rattle.file_resolve.proofs.idents.is_noted.Goals as goal

pub loop-j-init : goal.loop-j-init
loop-j-init c = none-noted c.args.key (λ i. get_or c.args.words.now (15504 + i) 0)

pub loop-j-preserved : goal.loop-j-preserved
loop-j-preserved c = noted-next c.args.key (λ i. get_or c.args.words.now (15504 + i) 0) c.loop-j.j c.loop-j.invariant refl

pub returns : goal.returns
returns c = noted-all c.args.key c.args.words.now c.loop-j.j (omega arith) c.loop-j.invariant

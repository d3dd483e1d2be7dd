-- Past the numbers of the kinds there is none. Assumes nothing.
use Rattle.std.proofs.Common.{arith}
use Rattle.def_file.proofs.Named.{invalid}
use Rattle.def_file.proofs.kind.KindFromU32.from.Goals as goal

pub returns-in_default : goal.returns-in_default
returns-in_default c = invalid c.args.n (λ h. omega arith)

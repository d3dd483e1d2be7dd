-- The number's flag. Assumes nothing.
use mathlib.Core.Path.{ap}
use Prim.Native.Nat.{ℕ}
use native.Mathlib.Omega.{arith}
use lib.Dec.{eqb}
use Rattle.words_targets.proofs.Targets as laws
use Rattle.words_targets.proofs.put_name.Goals as goal

pub returns : goal.returns
returns c = laws.joined-one (omega (arith, c.num_at-x.ensures, c.requires.2)) (λ i. ap (λ (y : ℕ). eqb y i) c.num_at-x.ensures) c.set_flag.ensures

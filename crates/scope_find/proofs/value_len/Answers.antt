-- A value's length. Assumes nothing.
use mathlib.Core.Path.{refl}
use native.Mathlib.Omega.{arith}
use lib.ListN.{get_or}
use Rattle.words.specs.Tab.{sum-part}
use Rattle.words_scopes.specs.State.{len_at}
use Rattle.scope_find.proofs.value_len.Goals as goal

pub overflow_cast-result : goal.overflow_cast-result
overflow_cast-result c = let w = c.args.w.now in omega (arith, sum-part (λ j. len_at w j) c.args.k (get_or w 1 0) c.requires.1, c.requires.0.vals)

pub returns : goal.returns
returns c = let w = c.args.w.now in (refl, omega (arith, sum-part (λ j. len_at w j) c.args.k (get_or w 1 0) c.requires.1, c.requires.0.vals))

-- Down the first children of declarations and declarators. Assumes nothing.
use mathlib.Core.Path.{◌≡◌}
use Prim.Native.Nat.{ℕ}
use lib.ListN.{drop}
use Rattle.laws_flat.specs.PassF.{next_is}
use Rattle.words.specs.Layout.{tree}
use Rattle.words_targets.proofs.aimed_at.Given as goal

abbrev pub invariant-loop-k : goal.invariant-loop-k
invariant-loop-k l = (i : ℕ) → next_is i (drop l.j (tree l.w)) ≡ next_is i (drop l.k (tree l.w))

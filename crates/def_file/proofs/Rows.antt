-- The rows of the kinds: a number that is no kind's has none. Assumes nothing.
use Rattle.std.proofs.Common.{◌≡◌, ℕ, ◌<◌, ◌≤◌, refl, sym, ap, arith}
use mathlib.Core.Logic.{◌⊎◌, inl, inr}
use lib.ListN.{get_or-eq_default}
use Rattle.def_file.specs.declared.kinds.Row.{Row}
use Rattle.def_file.specs.Kinds.{rows, row_of, no_row}

pub none : (k f : ℕ) → (k ≡ 0) ⊎ (48 < k) → no_row ≡ row_of k f
unfolding row_of
none k f (inl e) = rw e refl
none k f (inr h) = let past : 49 ≤ k = omega arith in sym (ap (λ (r : ℕ → Row). r f) (get_or-eq_default rows (λ f. no_row) past))

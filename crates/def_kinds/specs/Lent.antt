-- What a list of bytes has to be for a table of kinds, and when it allows no pair that another one forbids. Assumes nothing: these are definitions.
use Rattle.std.specs.Prelude.{Bool, true, false, ◌&&◌, ◌||◌, not, List, [], ◌∷◌, ℕ, eqb, leb, length}
use Rattle.std.specs.List.{list_all}

-- 2,304 bytes, none above 1
abbrev pub is_table : List ℕ → Bool
is_table T = eqb (length T) 2304 && list_all (λ b. leb b 1) T

-- each pair that the first allows the second allows too
abbrev pub within : List ℕ → List ℕ → Bool
within [] ks = true
within (b ∷ bs) [] = false
within (b ∷ bs) (k ∷ ks) = (not (eqb b 1) || eqb k 1) && within bs ks

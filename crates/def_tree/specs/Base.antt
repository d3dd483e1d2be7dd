-- Small helpers: choice, conversion of tests, membership.
use Rattle.std.specs.Prelude.{Bool, true, false, List, [], ◌∷◌, ℕ, eqb}
use Rattle.std.proofs.Math.Option.{Option, none, some}

-- x if the test passes, else y. Both are computed first: use `elim` where a branch holds a recursive call
module _ {A : Type 0} where
  abbrev pub pick : Bool → A → A → A
  pick true x y = x
  pick false x y = y

  -- changed if the test passes
  abbrev pub change_if : (A → A) → (A → Bool) → A → A
  change_if f p x = pick (p x) (f x) x

  abbrev pub or_else : Option A → Option A → Option A
  or_else none y = y
  or_else (some x) y = some x

abbrev pub to_nat : Bool → ℕ
to_nat true = 1
to_nat false = 0

-- is the number in the list
abbrev pub member : ℕ → List ℕ → Bool
member i [] = false
member i (j ∷ js) = elim (eqb i j) [ true ↦ true | false ↦ member i js ]

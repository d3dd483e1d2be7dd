-- The n-th root binding, from 0, or that there is none. Assumes nothing: these are definitions.
use Rattle.std.proofs.Math.Option.{Option, none, some}
use Rattle.std.specs.Prelude.{List, [], ◌∷◌, ℕ, zero, suc, Option as Answer, Some, None}
use Rattle.def_pass.specs.Script.{Root}
use Rattle.pass_roots.specs.declared.Root.{Root as Binding}
use Rattle.pass_roots.specs.Listing.{given}

-- as the list stands
abbrev pub nth : ℕ → List Root → Option Root
nth n [] = none
nth zero (r ∷ rs) = some r
nth (suc n) (r ∷ rs) = nth n rs

-- the answer for each of the two cases
abbrev pub nth_is : Option Root → Answer Binding
nth_is none = None
nth_is (some r) = Some (given r)

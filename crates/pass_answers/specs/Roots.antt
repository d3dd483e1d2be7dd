-- What the C functions that tell the root bindings promise, by the definition's pass over a file: all of them, or the one of a number. Assumes nothing: these are definitions.
use Rattle.std.specs.Prelude.{◌≡◌, true, false, List, ℕ, length, Result, Ok, Err, Option as Maybe, Some, None}
use Rattle.std.proofs.Math.Option.{Option, none, some}
use Rattle.def_pass.specs.Script.{Root, Answer, no!, yes!, pass_file}
use Rattle.def_tree.specs.Base.{to_nat}
use Rattle.file_copy.specs.Copy.{WordsAre}
use Rattle.pass_roots.specs.Listing.{Listing, refused, listed, in_room, left}
use Rattle.pass_roots.specs.Nth.{nth}
use Rattle.pass_roots.specs.declared.Root.{Root as Binding}
use Rattle.refusal.specs.declared.Refusal.{Refusal}
use Rattle.refusal.specs.Number.{number}
use Rattle.pass_answers.specs.declared.Roots.{Roots}
use Rattle.pass_answers.specs.declared.RootBinding.{RootBinding}
use Rattle.def_pass.specs.Entry.{enough}

-- a refusal, or what is said of the root bindings, oldest first
module _ {Z : Type 0} (stop : ℕ → Z) (of : List Root → Z) where
  abbrev pub said : Answer → Z
  said (no! m) = stop m
  said (yes! k c xs rs) = of rs

  -- rows 1 to 9
  unfoldable pub over_roots : ℕ → ℕ → List ℕ → Z
  over_roots runs words bs = elim (enough runs words) [ false ↦ stop 1 | true ↦ said (pass_file runs bs) ]

-- rows 1 to 10
abbrev pub listing : ℕ → ℕ → List ℕ → ℕ → Listing
listing runs words bs room = over_roots refused (in_room room) runs words bs

-- the two numbers of an answer
abbrev pub numbers : Listing → Roots
numbers (refused m) = record { refused = m; count = 0 }
numbers (listed rs) = record { refused = 0; count = length rs }

-- the same of the count that they are made of
abbrev pub counted : Result ℕ Refusal → Roots
counted (Ok n) = record { refused = 0; count = n }
counted (Err r) = record { refused = number r; count = 0 }

-- for all arguments; the words are kept by row 1, and after all else the first 16,384 are 0 and those past them kept
pub record RootsIs (bs r r' w w' : List ℕ) (runs : ℕ) (c : Roots) : Type 0 where
  pub answer : c ≡ numbers (listing runs (length w) bs (length r))
  pub roots : r' ≡ left r (listing runs (length w) bs (length r))
  pub words : WordsAre w w' (enough runs (length w))

-- document 01's number of a refusal, or the root binding of a number from 0, if there is one
pub data NthRoot : Type 0 where
  stopped : ℕ → NthRoot
  given : Option Root → NthRoot

-- rows 1 to 9: no buffer is lent for the answer
abbrev pub nth_root : ℕ → ℕ → List ℕ → ℕ → NthRoot
nth_root runs words bs n = over_roots stopped (λ rs. given (nth n rs)) runs words bs

-- the numbers of an answer
abbrev pub nth_numbers : NthRoot → RootBinding
nth_numbers (stopped m) = record { refused = m; found = 0; context = 0; text = 0; prevented = 0; count = 0 }
nth_numbers (given none) = record { refused = 0; found = 0; context = 0; text = 0; prevented = 0; count = 0 }
nth_numbers (given (some r)) = record { refused = 0; found = 1; context = r.key.bits; text = r.key.text; prevented = to_nat r.mark; count = r.count }

-- the same of the binding that they are made of
abbrev pub bound : Result (Maybe Binding) Refusal → RootBinding
bound (Err r) = record { refused = number r; found = 0; context = 0; text = 0; prevented = 0; count = 0 }
bound (Ok None) = record { refused = 0; found = 0; context = 0; text = 0; prevented = 0; count = 0 }
bound (Ok (Some b)) = record { refused = 0; found = 1; context = b.context; text = b.text; prevented = to_nat b.prevented; count = b.count }

-- for all arguments
pub record RootIs (bs w w' : List ℕ) (runs n : ℕ) (c : RootBinding) : Type 0 where
  pub answer : c ≡ nth_numbers (nth_root runs (length w) bs n)
  pub words : WordsAre w w' (enough runs (length w))

-- What a spot of the port stands for. Assumes nothing: these are definitions.
use Rattle.std.specs.Prelude.{◌≡◌, List, [], ◌∷◌, ℕ, eqb, codes, Option, Some, None}
use Rattle.def_tree.specs.Base.{pick}
use Rattle.def_text.specs.Words.{Word}
use Rattle.def_text.specs.Table.{statement_start, let_bracket, of_start}
use Rattle.text_table.specs.declared.Bars.{Bars}
use Rattle.text_table.specs.declared.Bars.TheVariants as Barred
use Rattle.text_table.specs.Put as Put
use Rattle.text_words.specs.Words.{word}
use Rattle.text_spots.specs.declared.Spot.{Spot}

abbrev pub bars_of : Bars → List (List Word)
bars_of Barred.Nothing = []
bars_of Barred.Statement = statement_start
bars_of Barred.LetBracket = let_bracket
bars_of Barred.Of = of_start
bars_of Barred.Body = (codes "{" ∷ []) ∷ []

-- a word by its number; 255 is none
abbrev pub next_of : ℕ → List Word
next_of n = pick (eqb n 255) [] (word n ∷ [])

abbrev pub spot_of : Spot → Put.Spot
spot_of s = record { place = s.place.place; has_in = s.place.has_in; has_return = s.place.has_return; has_else = s.place.has_else; bars = bars_of s.bars; next = next_of s.next }

abbrev pub InsideIs : Spot → Option Spot → Type 0
InsideIs s None = Put.inner (spot_of s) ≡ None
InsideIs s (Some q) = Put.inner (spot_of s) ≡ Some (spot_of q)

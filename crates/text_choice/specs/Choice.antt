-- What a node begins with, as far as something may be barred, and how it is printed. Assumes nothing: these are definitions.
use Rattle.std.specs.Prelude.{◌≡◌, T, Bool, true, false, List, ℕ, ◌+◌, ◌<◌, eqb, get_or, Option, Some, None}
use Rattle.def_tree.specs.Tree.{Tree, kind, form, kids, length_f}
use Rattle.def_text.specs.Words.{Word}
use Rattle.def_text.specs.Grammar.{is_for}
use Rattle.def_text.specs.Derives.{barred}
use Rattle.def_text.specs.Print.{opening_first}
use Rattle.file_read.specs.declared.header.Header.{Header}
use Rattle.text_table.specs.declared.Bars.{Bars}
use Rattle.text_table.specs.declared.Bars.TheVariants as Barred
use Rattle.text_table.specs.Rows.{rows, no_row}
use Rattle.text_table.specs.Put as Put
use Rattle.text_tokens.specs.Tokens.{node_of}
use Rattle.text_spots.specs.Spots.{bars_of, spot_of}
use Rattle.text_choice.specs.Trees.{extra, lay_first, trees_of, spelled}
use Rattle.text_choice.specs.declared.opening.Beginning.{Beginning}
use Rattle.text_choice.specs.declared.opening.Beginning.TheVariants as Beginnings
use Rattle.text_choice.specs.declared.Choice.{Choice}

-- what such an opening is barred by; word 32 is `[`, 17 `of`
abbrev pub barred_by : Bars → Beginning → Bool
barred_by b Beginnings.Other = false
barred_by Barred.Nothing o = false
barred_by Barred.Statement Beginnings.Brace = true
barred_by Barred.Statement Beginnings.Function = true
barred_by Barred.Statement (Beginnings.Let n) = eqb n 32
barred_by Barred.Statement (Beginnings.Async n) = false
barred_by Barred.LetBracket Beginnings.Brace = false
barred_by Barred.LetBracket Beginnings.Function = false
barred_by Barred.LetBracket (Beginnings.Let n) = eqb n 32
barred_by Barred.LetBracket (Beginnings.Async n) = false
barred_by Barred.Of Beginnings.Brace = false
barred_by Barred.Of Beginnings.Function = false
barred_by Barred.Of (Beginnings.Let n) = true
barred_by Barred.Of (Beginnings.Async n) = eqb n 17
barred_by Barred.Body Beginnings.Brace = true
barred_by Barred.Body Beginnings.Function = false
barred_by Barred.Body (Beginnings.Let n) = false
barred_by Barred.Body (Beginnings.Async n) = false

-- tokens begin so
pub record Opens (o : Beginning) (ws : List Word) : Type 0 where
  pub is : (b : Bars) → barred (bars_of b) ws ≡ barred_by b o

-- those of a first child that is a pattern
abbrev pub first_tokens : List ℕ → Header → ℕ → List Word
first_tokens bs h k = let x = node_of bs h k in opening_first (spelled bs h) (lay_first (extra x.kind x.form) (trees_of bs h x.arity (k + 1)))

-- how a tree is printed at a spot
pub record Chosen (spell : ℕ → ℕ → Word) (t : Tree) (s : Put.Spot) (c : Choice) : Type 0 where
  pub few : c.row < 136
  pub row : T (is_for (kind t) (form t) (length_f (kids t)) (get_or rows c.row no_row).rule)
  pub place : c.spot.place.place < 53
  pub is : Put.choice spell t s ≡ Some (record { row = get_or rows c.row no_row; spot = spot_of c.spot; paired = c.paired })

abbrev pub ChosenIs : (ℕ → ℕ → Word) → Tree → Put.Spot → Option Choice → Type 0
ChosenIs spell t s None = Put.choice spell t s ≡ None
ChosenIs spell t s (Some c) = Chosen spell t s c

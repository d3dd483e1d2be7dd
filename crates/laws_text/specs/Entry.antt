-- Why the printer answers as it does. Assumes nothing: these are definitions.
use Rattle.std.specs.Prelude.{◌≡◌, ◌⊎◌, List, [], ◌∷◌, ℕ, ◌≤◌, ◌<◌, length}
use Rattle.def_file.specs.Script.{Script}
use Rattle.def_file.specs.Read.{bad, script, read}
use Rattle.def_text.specs.Words.{Word}
use Rattle.def_tree.specs.Tree.{Tree}
use Rattle.def_text.specs.Derives.{laid, tokens, Reads}
use Rattle.def_text.specs.Print.{start, text}
use Rattle.def_text.specs.Lexing.{Lexes}
use Rattle.laws_text.specs.Claims.{Less, Elsewhere}
use Rattle.def_text.specs.Entry.{tree, spell, Printing, refused, wrote, print_entry}

-- the tokens read as the script's tree, kind 41 and contexts passed over
abbrev pub ReadsAs : (ℕ → Word) → List Word → Script → Type 0
ReadsAs decimal ws s = Reads (spell decimal s) ws (laid (tree s))

-- each refusal on its own condition, and no other; what is written has tokens that read as the tree
pub data Why (decimal : ℕ → Word) (words : ℕ) (bs : List ℕ) (room : ℕ) : Printing → Type 0 where
  few_words : words < 16384 → Why decimal words bs room (refused 1)
  not_read : (n : ℕ) → 16384 ≤ words → read bs ≡ bad n → Why decimal words bs room (refused n)
  no_text : (s : Script) → 16384 ≤ words → read bs ≡ script s → ((ws : List Word) → ReadsAs decimal ws s → ⊥) → Why decimal words bs room (refused 12)
  no_room : (s : Script) (ws : List Word) → 16384 ≤ words → read bs ≡ script s → ReadsAs decimal ws s → room < length (text (spell decimal s) (tree s)) → Why decimal words bs room (refused 11)
  prints : (s : Script) (ws : List Word) → 16384 ≤ words → read bs ≡ script s → Lexes (text (spell decimal s) (tree s)) ws → ReadsAs decimal ws s → length (text (spell decimal s) (tree s)) ≤ room
      → Why decimal words bs room (wrote (text (spell decimal s) (tree s)))

abbrev pub Answers : Type 0
Answers = (decimal : ℕ → Word) (words : ℕ) (bs : List ℕ) (room : ℕ) → Why decimal words bs room (print_entry decimal words bs room)

-- "An added pair is never there if the text without it still reads .. as the same tree", and it stands "round the smallest expression that helps": take any one
-- pair that printing adds to a script that is read, and leave it out, or put pairs round smaller expressions inside of it in its place: what is left does not
-- read as the script's tree
abbrev pub PairsNeeded : Type 0
PairsNeeded = (decimal : ℕ → Word) (bs : List ℕ) (s : Script) (v : Tree) → read bs ≡ script s → Less (spell decimal s) (laid (tree s)) (start ∷ []) v ⊎ Elsewhere (spell decimal s) (laid (tree s)) (start ∷ []) v
    → ReadsAs decimal (tokens (spell decimal s) v) s → ⊥

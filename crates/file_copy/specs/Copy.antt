-- What copying a file answers, and what it leaves in both buffers. Assumes nothing: these are definitions.
use Rattle.std.specs.Prelude.{◌≡◌, Bool, true, false, List, ℕ, leb, length}
use Rattle.words.specs.Moved.{Cleared}
use Rattle.def_file.specs.Read.{Read, bad, script, read}
use Rattle.file_write.specs.Written.{Answer, refused, wrote, in_room, left}
use Rattle.file_copy.specs.declared.Copied.{Copied}

-- rows 2 to 7, then row 10: the result is as long as the file
abbrev pub roomed : List ℕ → ℕ → Read → Answer
roomed bs room (bad m) = refused m
roomed bs room (script s) = in_room (length bs) room

-- row 1, then the others, by the file, the room for the result and the number of words
abbrev pub ending : List ℕ → ℕ → ℕ → Answer
ending bs room words = elim (leb 16384 words) [ false ↦ refused 1 | true ↦ roomed bs room (read bs) ]

-- the two numbers of an answer
abbrev pub numbers : Answer → Copied
numbers (refused m) = record { refused = m; length = 0 }
numbers (wrote n) = record { refused = 0; length = n }

-- the words: row 1 keeps them; after all else the first 16,384 are 0 and those past them kept
abbrev pub WordsAre : List ℕ → List ℕ → Bool → Type 0
WordsAre w w' false = w' ≡ w
WordsAre w w' true = Cleared w w'

-- the result: a refusal keeps it; otherwise the file's own bytes, and behind them what stood there
pub record CopyIs (bs r r' w w' : List ℕ) (c : Copied) : Type 0 where
  pub answer : c ≡ numbers (ending bs (length r) (length w))
  pub result : r' ≡ left bs r (ending bs (length r) (length w))
  pub words : WordsAre w w' (leb 16384 (length w))

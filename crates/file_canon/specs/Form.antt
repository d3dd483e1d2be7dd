-- The canonical form of the script of a file, and what has to stand in the words for it to be written. Assumes nothing: these are definitions.
use Rattle.std.specs.Prelude.{List, ℕ, ◌≤◌, ◌<◌, length, get_or}
use Rattle.def_file.specs.Script.{Script}
use Rattle.def_file.specs.Write.{text_bytes}
use Rattle.def_canon.specs.Canon.{texts_used, canon}
use Rattle.file_read.specs.declared.header.Header.{Header}
use Rattle.file_read.specs.Load.{script_of, Readable}
use Rattle.file_canon.specs.Uses.{Used}

-- the script of a file with such counts, and its canonical form
abbrev pub read_of : List ℕ → Header → Script
read_of bs h = script_of bs h.nodes h.texts

unfoldable pub form_of : List ℕ → Header → Script
unfolding canon
form_of bs h = canon (read_of bs h)

-- the file is a script's, the words have the numbers of its texts and contexts, and the form has a file too
pub record Held (bs w : List ℕ) (h : Header) : Type 0 where
  pub readable : Readable bs h.nodes h.texts
  pub used : Used w (read_of bs h).nodes
  pub known : (i : ℕ) → i < length (texts_used (read_of bs h)) → get_or (texts_used (read_of bs h)) i 0 < h.texts
  pub few : length (form_of bs h).texts ≤ 256
  pub small : length (text_bytes (form_of bs h).texts) ≤ 4096

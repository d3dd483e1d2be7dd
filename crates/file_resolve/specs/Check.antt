-- What reading answers that does not count identifiers: a refusal by its number, or a script by its counts. Assumes nothing: these are definitions.
use Rattle.std.specs.Prelude.{◌≡◌, true, List, ℕ, Result, Ok, Err}
use Rattle.refusal.specs.declared.Refusal.{Refusal}
use Rattle.refusal.specs.Number.{number}
use Rattle.def_file.specs.Script.{Script}
use Rattle.def_file.specs.Read.{bad, script, distinct}
use Rattle.def_resolve.specs.Entry.{read_shaped}
use Rattle.file_read.specs.declared.header.Header.{Header}
use Rattle.file_read.specs.Head.{Counts}
use Rattle.file_read.specs.Load.{script_of, Readable}

-- the script of a file with such counts
abbrev pub read_of : List ℕ → Header → Script
read_of bs h = script_of bs h.nodes h.texts

-- refusals 2 to 6 are passed: it is the file of that script
pub record Shaped (bs : List ℕ) (h : Header) : Type 0 where
  pub counts : Counts bs h
  pub readable : Readable bs h.nodes h.texts
  pub apart : distinct (read_of bs h).texts ≡ true
  pub is : read_shaped bs ≡ script (read_of bs h)

abbrev pub CheckIs : List ℕ → Result Header Refusal → Type 0
CheckIs bs (Ok h) = Shaped bs h
CheckIs bs (Err r) = read_shaped bs ≡ bad (number r)

-- What reading a file promises: the answer is the definition's, and so are the words. Assumes nothing: these are definitions.
use Rattle.std.specs.Prelude.{◌≡◌, Bool, true, false, List, ℕ, leb, length, Result, Ok, Err}
use Rattle.refusal.specs.declared.Refusal.{Refusal}
use Rattle.refusal.specs.Number.{number}
use Rattle.words.specs.Layout.{tree, node_count}
use Rattle.words.specs.Moved.{Cleared}
use Rattle.def_file.specs.Script.{Script, idents}
use Rattle.def_file.specs.Core.{core_nodes}
use Rattle.def_file.specs.Read.{Read, bad, script, read, u32}
use Rattle.def_under.specs.Reading.{read_under, lent}
use Rattle.file_read.specs.declared.header.Header.{Header}
use Rattle.file_read.specs.Idents.{ids_of, Listed}
use Rattle.file_read.specs.Head.{Counts}
use Rattle.file_read.specs.Load.{Kept, script_of, Readable}

-- rows 2 to 6 under the table T: what `read_under` gives, or what is still to be tested of the script
abbrev pub CheckIs : List ℕ → List ℕ → Result Header Refusal → Type 0
CheckIs T bs (Err r) = read_under T bs ≡ bad (number r)
CheckIs T bs (Ok h) = Counts bs h × Readable bs h.nodes h.texts
    × (read_under T bs ≡ elim (leb (length (idents (script_of bs h.nodes h.texts))) 256) [ false ↦ bad 7 | true ↦ script (script_of bs h.nodes h.texts) ])

-- the words hold the core of a script, with its identifiers
pub record Held (bs w : List ℕ) (s : Script) : Type 0 where
  pub count : node_count w ≡ length s.nodes
  pub tree : tree w ≡ core_nodes s
  pub ids : ids_of bs w ≡ idents s
  pub listed : Listed w (length s.nodes)

-- the counts of a script's file
abbrev pub counts_of : List ℕ → Script → Header
counts_of bs s = record { nodes = length s.nodes; texts = length s.texts; bytes = u32 bs 28 }

-- the answer to what was read: a script by its counts, a refusal by its number
abbrev pub Told : List ℕ → Read → Result Header Refusal → Type 0
Told bs x (Ok h) = (s : Script) × (x ≡ script s) × (h ≡ counts_of bs s)
Told bs x (Err r) = x ≡ bad (number r)

-- and the words: a script's core, or anything in the first 16,384
abbrev pub Left : List ℕ → List ℕ → Read → Type 0
Left bs w (bad m) = Unit {0}
Left bs w (script s) = Held bs w s

-- x is what is read of the file
pub record LoadIs (x : Read) (bs w w' : List ℕ) (r : Result Header Refusal) : Type 0 where
  pub answer : Told bs x r
  pub words : Left bs w' x
  pub kept : Kept w w'

-- row 1, then the others
abbrev pub answer_of : ℕ → Read → Read
answer_of words x = elim (leb 16384 words) [ false ↦ bad 1 | true ↦ x ]

-- the first 16,384 words are 0 after a refusal, and hold the script's core otherwise; those past them are kept
abbrev pub After : List ℕ → List ℕ → List ℕ → Read → Type 0
After bs w w' (bad m) = Cleared w w'
After bs w w' (script s) = Held bs w' s × Kept w w'

abbrev pub WordsAre : Read → List ℕ → List ℕ → List ℕ → Bool → Type 0
WordsAre x bs w w' false = w' ≡ w
WordsAre x bs w w' true = After bs w w' x

pub record ReadsAs (x : Read) (bs w w' : List ℕ) (r : Result Header Refusal) : Type 0 where
  pub answer : Told bs (answer_of (length w) x) r
  pub words : WordsAre x bs w w' (leb 16384 (length w))

-- rows 2 to 7
abbrev pub ReadIs : List ℕ → List ℕ → List ℕ → Result Header Refusal → Type 0
ReadIs bs w w' r = ReadsAs (read bs) bs w w' r

-- rows 14 and 15, then 2 to 7 under the table T
abbrev pub ReadUnderIs : List ℕ → List ℕ → List ℕ → List ℕ → Result Header Refusal → Type 0
ReadUnderIs T bs w w' r = ReadsAs (lent T bs) bs w w' r

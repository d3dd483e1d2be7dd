-- What loading a script's core into the words promises. Assumes nothing: these are definitions.
use Rattle.std.specs.Prelude.{◌≡◌, true, List, [], ℕ, ◌+◌, ◌*◌, ◌≤◌, ◌<◌, length, drop, take, Result, Ok, Err}
use Rattle.refusal.specs.declared.Refusal.{Refusal}
use Rattle.refusal.specs.Number.{number}
use Rattle.words.specs.Layout.{tree, beyond, node_count}
use Rattle.def_file.specs.Script.{Script, has_id, enter_all, idents}
use Rattle.def_file.specs.Core.{core_nodes}
use Rattle.def_file.specs.Read.{nodes_from, raw_of, nodes_ok}
use Rattle.file_read.specs.Text.{texts_of, Placed}
use Rattle.file_read.specs.Head.{places}
use Rattle.file_read.specs.Idents.{ids_of, Listed, Texted}

-- the script of a file of n nodes and t texts
abbrev pub script_of : List ℕ → ℕ → ℕ → Script
script_of bs n t = record { nodes = nodes_from n (drop 32 bs); texts = texts_of bs (places n t) }

-- rows 2 to 6 passed
pub record Readable (bs : List ℕ) (n t : ℕ) : Type 0 where
  pub some : 1 ≤ n
  pub few : n ≤ 1024
  pub placed : Placed bs (places n t)
  pub ok : nodes_ok (script_of bs n t) ≡ true

-- node k has an identifier
abbrev pub Named : List ℕ → ℕ → Type 0
Named bs k = has_id (raw_of (drop (32 + 16 * k) bs)) ≡ true

-- the first k nodes are loaded
pub record Loaded (bs w : List ℕ) (n t k : ℕ) : Type 0 where
  pub count : node_count w ≡ k
  pub tree : tree w ≡ take k (core_nodes (script_of bs n t))
  pub ids : ids_of bs w ≡ enter_all [] (take k (nodes_from n (drop 32 bs)))
  pub listed : Listed w n
  pub texted : Texted bs w

-- and node k is to be
pub record Loading (bs w : List ℕ) (n t k : ℕ) : Type 0 where
  pub readable : Readable bs n t
  pub less : k < n
  pub loaded : Loaded bs w n t k

-- the words past the first 16,384, and their number, are as they were
pub record Kept (w w' : List ℕ) : Type 0 where
  pub size : length w' ≡ length w
  pub rest : beyond w' ≡ beyond w

-- one node more, or row 7
abbrev pub Next : List ℕ → List ℕ → ℕ → ℕ → ℕ → Result Unit Refusal → Type 0
Next bs w n t k (Ok u) = Loaded bs w n t k
Next bs w n t k (Err r) = (number r ≡ 7) × (256 < length (idents (script_of bs n t)))

pub record Step (bs w w' : List ℕ) (n t k : ℕ) (r : Result Unit Refusal) : Type 0 where
  pub kept : Kept w w'
  pub next : Next bs w' n t (k + 1) r

-- all nodes, or row 7
pub record Done (bs w w' : List ℕ) (n t : ℕ) (r : Result Unit Refusal) : Type 0 where
  pub kept : Kept w w'
  pub next : Next bs w' n t n r

-- The scripts that have a file: each field within its width, and the limits of document 01. Assumes nothing: these are definitions.
use Rattle.std.specs.Prelude.{◌≡◌, Bool, List, [], ℕ, ◌≤◌, ◌<◌, length, get_or}
use Rattle.def_file.specs.declared.Raw.{Raw}
use Rattle.def_file.specs.Script.{Script, zero_node, idents}
use Rattle.def_file.specs.Read.{distinct, nodes_ok}
use Rattle.def_file.specs.Write.{text_bytes}

-- every byte is below 256
abbrev pub Bytes : List ℕ → Type 0
Bytes bs = (i : ℕ) → get_or bs i 0 < 256

-- a node whose fields go into its 16 bytes
pub record Narrow (x : Raw) : Type 0 where
  pub kind : x.kind < 256
  pub form : x.form < 256
  pub arity : x.arity < 65536
  pub text : x.text < 4294967296
  pub bits : x.bits < 18446744073709551616

pub record Fits (s : Script) : Type 0 where
  pub narrow : (k : ℕ) → Narrow (get_or s.nodes k zero_node)
  pub bytes : (k : ℕ) → Bytes (get_or s.texts k [])
  pub some : 1 ≤ length s.nodes
  pub few : length s.nodes ≤ 1024
  pub texts : length s.texts ≤ 256
  pub size : length (text_bytes s.texts) ≤ 4096
  pub apart : distinct s.texts ≡ Bool.true
  pub shape : nodes_ok s ≡ Bool.true
  pub names : length (idents s) ≤ 256

-- How many identifiers there are, as numbered here: each is told from others by one number, of its text and its context. Assumes nothing: these are definitions.
use Rattle.std.specs.Prelude.{◌≡◌, true, List, ℕ, ◌+◌, ◌*◌, ◌≤◌, ◌<◌, length, get_or, Result, Ok, Err}
use Rattle.def_tree.specs.Base.{pick}
use Rattle.def_file.specs.declared.Raw.{Raw}
use Rattle.def_file.specs.Script.{Script, has_id, idents, zero_node}
use Rattle.def_resolve.specs.Resolve.{resolved}
use Rattle.refusal.specs.declared.Refusal.{Refusal}
use Rattle.refusal.specs.Number.{number}
use Rattle.words.specs.Layout.{ident_count, ident_word}
use Rattle.words.specs.Tab.{tab}
use Rattle.file_read.specs.Load.{Kept}
use Rattle.file_resolve.specs.Load.{with_number}

-- a node, which has that context if it is a name
abbrev pub with_context : Raw → ℕ → Raw
with_context x v = record { kind = x.kind; form = x.form; arity = x.arity; text = x.text; bits = pick (has_id x) v x.bits }

-- the numbers are the contexts of the names of s, resolved
pub record Contexts (s : Script) (numbers : List ℕ) : Type 0 where
  pub long : length s.nodes ≤ length numbers
  pub small : (k : ℕ) → k < length s.nodes → has_id (get_or s.nodes k zero_node) ≡ true → get_or numbers k 0 ≤ 2048
  pub is : (k : ℕ) → k < length s.nodes → get_or (resolved s).nodes k zero_node ≡ with_context (get_or s.nodes k zero_node) (get_or numbers k 0)

-- an identifier's number: there are at most 256 texts
abbrev pub key : Raw → ℕ
key x = x.text + 256 * x.bits

-- those in the words, where the identifiers of the pass stand otherwise
unfoldable pub keys_of : List ℕ → List ℕ
keys_of w = tab (ident_count w) (λ i. ident_word w i)

-- one more unless it is one of them, or the refusal 7 where these would be over 256
abbrev pub Next : List ℕ → List ℕ → ℕ → Result Unit Refusal → Type 0
Next w w' key (Ok u) = (keys_of w' ≡ with_number key (keys_of w)) × (ident_count w' ≤ 256)
Next w w' key (Err r) = (number r ≡ 7) × (256 < length (with_number key (keys_of w)))

pub record Noted (w w' : List ℕ) (key : ℕ) (r : Result Unit Refusal) : Type 0 where
  pub kept : Kept w w'
  pub next : Next w w' key r

-- the refusal 7 exactly where the resolved script has over 256 identifiers
abbrev pub Few : Script → Result Unit Refusal → Type 0
Few s (Ok u) = length (idents (resolved s)) ≤ 256
Few s (Err r) = (number r ≡ 7) × (256 < length (idents (resolved s)))

pub record Counted (s : Script) (w w' : List ℕ) (r : Result Unit Refusal) : Type 0 where
  pub kept : Kept w w'
  pub few : Few s r

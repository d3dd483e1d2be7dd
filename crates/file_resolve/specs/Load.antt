-- The core of a script whose contexts are passed over, loaded into the words: a name's number is that of its text among those that names have, in the
-- order of first use. Assumes nothing: these are definitions.
use Rattle.std.specs.Prelude.{◌≡◌, not, List, [], ◌∷◌, ◌++◌, ℕ, suc, ◌+◌, ◌≤◌, ◌<◌, eqb, length, get_or, take}
use Rattle.def_tree.specs.Base.{pick, member}
use Rattle.def_file.specs.declared.Raw.{Raw}
use Rattle.def_file.specs.Script.{Script, has_id, same_text, text_at, arguments}
use Rattle.def_file.specs.Core.{core_nodes}
use Rattle.def_canon.specs.Canon.{first_uses, index_of, text_number}
use Rattle.def_resolve.specs.Resolve.{bare}
use Rattle.words.specs.Layout.{tree, node_count, binding_count, scope_count, constant_count, index_word, ident_count, ident_count_place, first_of_text_base, first_of_text_word}
use Rattle.words_nodes.specs.Nodes.{Planted}
use Rattle.words_twice.specs.Twice.{Stand}
use Rattle.words_resolve.specs.Meanings.{OneArguments}
use Rattle.file_read.specs.Load.{script_of, Readable, Kept}

-- the texts that names have, in the order of first use
abbrev pub names_of : List Raw → List ℕ
names_of xs = first_uses has_id text_number [] xs

-- a number behind others, unless it is one of them
abbrev pub with_number : ℕ → List ℕ → List ℕ
with_number n ns = pick (not (member n ns)) (ns ++ (n ∷ [])) ns

-- the words have some texts: how many they are, and of each text its number among them from 1, or 0 where it is none of them
pub record Texts (w : List ℕ) (ts : List ℕ) : Type 0 where
  pub long : 16384 ≤ length w
  pub count : ident_count w ≡ length ts
  pub each : (t : ℕ) → t < 256 → first_of_text_word w t ≡ pick (member t ts) (suc (index_of t ts)) 0

-- text t has number n, behind those that the words had if it is new, and all other words are as they were
pub record Entered (w w' : List ℕ) (t n : ℕ) : Type 0 where
  pub size : length w' ≡ length w
  pub other : (j : ℕ) → (j ≡ ident_count_place → ⊥) → (j ≡ first_of_text_base + t → ⊥) → get_or w' j 0 ≡ get_or w j 0
  pub texts : (ts : List ℕ) → Texts w ts → Texts w' (with_number t ts)
  pub is : (ts : List ℕ) → Texts w ts → n ≡ index_of t (with_number t ts)

-- the number of text t among those of names, 256 where it is none of them or none at all
pub record Told (w : List ℕ) (t n : ℕ) : Type 0 where
  pub is : (ts : List ℕ) → Texts w ts → t < 256 → n ≡ pick (member t ts) (index_of t ts) 256
  pub none : 256 ≤ t → n ≡ 256

-- the text `arguments` is that of number a, or none of the script's
pub record Arguments (s : Script) (a : ℕ) : Type 0 where
  pub is : (t : ℕ) → t < length s.texts → same_text (text_at s t) arguments ≡ eqb t a

-- no bindings, scopes and constants, and an empty index
pub record Unused (w : List ℕ) : Type 0 where
  pub bindings : binding_count w ≡ 0
  pub scopes : scope_count w ≡ 0
  pub constants : constant_count w ≡ 0
  pub index : (x : ℕ) → x < 256 → index_word w x ≡ 0

-- the first k nodes are loaded
pub record Loaded (bs w : List ℕ) (n t k : ℕ) : Type 0 where
  pub count : node_count w ≡ k
  pub tree : tree w ≡ take k (core_nodes (bare (script_of bs n t)))
  pub texts : Texts w (names_of (take k (bare (script_of bs n t)).nodes))
  pub unused : Unused w

-- and node k is to be; the text `arguments` is that of number a
pub record Loading (bs w : List ℕ) (n t a k : ℕ) : Type 0 where
  pub readable : Readable bs n t
  pub arguments : Arguments (script_of bs n t) a
  pub less : k < n
  pub loaded : Loaded bs w n t k

-- one node more
pub record Step (bs w w' : List ℕ) (n t k : ℕ) : Type 0 where
  pub kept : Kept w w'
  pub loaded : Loaded bs w' n t (k + 1)

-- all nodes; the names `arguments` are those of number a
pub record NamesLoaded (bs w w' : List ℕ) (n t a : ℕ) : Type 0 where
  pub kept : Kept w w'
  pub planted : Planted w'
  pub stand : Stand (tree w') 0 1
  pub arguments : OneArguments (tree w') a
  pub tree : tree w' ≡ core_nodes (bare (script_of bs n t))

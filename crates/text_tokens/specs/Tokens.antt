-- The tokens of a file's nodes, each by a number: below 128 a word of the productions, from there on a node's own. Assumes nothing: these are definitions.
use Rattle.std.specs.Prelude.{Bool, ◌≡◌, ◌⊎◌, List, ℕ, ◌-◌, ltb, get_or, T}
use Rattle.def_tree.specs.Base.{pick}
use Rattle.def_file.specs.declared.Raw.{Raw}
use Rattle.def_file.specs.Kinds.{uses_text}
use Rattle.def_file.specs.Script.{Script, zero_node}
use Rattle.file_read.specs.declared.header.Header.{Header}
use Rattle.file_read.specs.Load.{script_of}
use Rattle.def_text.specs.Words.{Word, is_name, is_variable, is_number, is_string}
use Rattle.def_text.specs.Entry.{own_number, spell}
use Rattle.text_table.specs.declared.Sort.{Sort}
use Rattle.text_table.specs.declared.Sort.TheVariants as Sorts
use Rattle.text_words.specs.Words.{word}
use Rattle.text_words.specs.Decimals.{decimal_text}

abbrev pub script_at : List ℕ → Header → Script
script_at bs h = script_of bs h.nodes h.texts

abbrev pub node_of : List ℕ → Header → ℕ → Raw
node_of bs h k = get_or (script_at bs h).nodes k zero_node

abbrev pub HasText : List ℕ → Header → ℕ → Type 0
HasText bs h k = T (uses_text (node_of bs h k).kind)

-- it has a text, or is a number
abbrev pub HasOwn : List ℕ → Header → ℕ → Type 0
HasOwn bs h k = T (uses_text (node_of bs h k).kind) ⊎ ((node_of bs h k).kind ≡ 24)

-- a node's own token
abbrev pub own_of : List ℕ → Header → ℕ → Word
own_of bs h k = let x = node_of bs h k in spell decimal_text (script_at bs h) x.kind (own_number x)

abbrev pub token : List ℕ → Header → ℕ → Word
token bs h c = pick (ltb c 128) (word c) (own_of bs h (c - 128))

-- what a production asks of a node of kind k, by its kind
abbrev pub SortFits : ℕ → Sort → Type 0
SortFits k Sorts.Name = T (uses_text k) × (k ≡ 25 → ⊥) × (k ≡ 24 → ⊥)
SortFits k Sorts.Variable = T (uses_text k) × (k ≡ 25 → ⊥) × (k ≡ 24 → ⊥)
SortFits k Sorts.Number = k ≡ 24
SortFits k Sorts.Text = k ≡ 25

abbrev pub own_ok : Word → Sort → Bool
own_ok w Sorts.Name = is_name w
own_ok w Sorts.Variable = is_variable w
own_ok w Sorts.Number = is_number w
own_ok w Sorts.Text = is_string w

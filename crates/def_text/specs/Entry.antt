-- Printing a file: the tree of a script, the token of a node's own text, number or string, and the entry with its refusals: 1 to 7 as for the writer of
-- canonical files, then 12 where no text reads as the tree, then 11 where the text is longer than its buffer. Assumes nothing: these are definitions.
use Rattle.std.specs.Prelude.{true, false, ◌||◌, List, [], ◌∷◌, ◌++◌, map, ℕ, eqb, leb, length}
use Rattle.def_tree.specs.Base.{pick}
use Rattle.def_tree.specs.Tree.{Tree, Core, core, plant, first_t}
use Rattle.def_file.specs.declared.Raw.{Raw}
use Rattle.def_file.specs.declared.kind.Kind.TheVariants as Kinds
use Rattle.def_file.specs.Named.{is_kind}
use Rattle.def_file.specs.Kinds.{uses_text}
use Rattle.def_file.specs.Script.{Script, text_at}
use Rattle.def_file.specs.Read.{Read, bad, script, read}
use Rattle.def_text.specs.Words.{Word}
use Rattle.def_text.specs.Print.{has_text, text}

-- a node with its text's number or its number's bits; contexts are passed over
abbrev pub own_number : Raw → ℕ
own_number x = pick (uses_text x.kind) x.text (pick (is_kind Kinds.Number x.kind) x.bits 0)

abbrev pub print_node : Raw → Core
print_node x = core x.kind x.form x.arity (own_number x)

unfoldable pub tree : Script → Tree
tree s = first_t (plant (map print_node s.nodes))

-- "strings in double quotes with `\` before `"` and `\` alone"
abbrev pub escaped : Word → Word
escaped [] = []
escaped (c ∷ w) = elim (eqb c 34 || eqb c 92) [ true ↦ 92 ∷ c ∷ escaped w | false ↦ c ∷ escaped w ]

abbrev pub quoted : Word → Word
quoted w = 34 ∷ (escaped w ++ (34 ∷ []))

-- decimal: a number's token by its bits, empty where it has none
abbrev pub spell : (ℕ → Word) → Script → ℕ → ℕ → Word
spell decimal s k a = pick (is_kind Kinds.Number k) (decimal a) (pick (is_kind Kinds.Str k) (quoted (text_at s a)) (text_at s a))

-- a refusal's number, or the text that was written
pub data Printing : Type 0 where
  refused : ℕ → Printing
  wrote : List ℕ → Printing

abbrev pub print_read : (ℕ → Word) → ℕ → Read → Printing
print_read decimal room (bad r) = refused r
print_read decimal room (script s) =
    elim (has_text (spell decimal s) (tree s)) [
      | false ↦ refused 12
      | true ↦ elim (leb (length (text (spell decimal s) (tree s))) room) [ false ↦ refused 11 | true ↦ wrote (text (spell decimal s) (tree s)) ]
    ]

unfoldable pub print_entry : (ℕ → Word) → ℕ → List ℕ → ℕ → Printing
unfolding read
print_entry decimal words bytes room = elim (leb 16384 words) [ false ↦ refused 1 | true ↦ print_read decimal room (read bytes) ]

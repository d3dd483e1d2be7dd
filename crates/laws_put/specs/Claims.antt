-- What is claimed of printing by rows, for every way to spell. Assumes nothing: these are definitions.
use Rattle.std.specs.Prelude.{◌≡◌, T, true, false, ℕ, Some, None}
use Rattle.def_tree.specs.Tree.{Forest, node, kids, length_f}
use Rattle.def_text.specs.Words.{Word}
use Rattle.def_text.specs.Derives.{laid_all, tokens_all}
use Rattle.def_text.specs.Print.{printed, has_text}
use Rattle.laws_text.specs.Claims.{all_pairs_ok}
use Rattle.text_table.specs.Put.{items, put_all}

-- the statements of a script have the tokens that def_text prints, or there is no text
abbrev pub Printed : Type 0
Printed = (spell : ℕ → ℕ → Word) (ts : Forest) → T (all_pairs_ok ts)
    → put_all spell (laid_all ts) (items (length_f ts)) ≡ elim (has_text spell (node 1 0 0 ts)) [ true ↦ Some (tokens_all spell (kids (printed spell (node 1 0 0 ts)))) | false ↦ None ]

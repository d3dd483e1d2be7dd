-- The canonical form of a script (request 11): the writer "puts texts in the order of their first use by nodes, drops unused ones and renumbers
-- contexts from 0 in the order of first use". Assumes nothing: these are definitions.
use Rattle.std.specs.Prelude.{Bool, true, false, ◌&&◌, not, List, [], ◌∷◌, ◌++◌, map, ℕ, suc, eqb}
use Rattle.def_tree.specs.Base.{pick, member}
use Rattle.def_file.specs.declared.Raw.{Raw}
use Rattle.def_file.specs.Kinds.{uses_text}
use Rattle.def_file.specs.Script.{Script, has_id, text_at}

-- the number of a node that has one, behind the numbers of the nodes before it, unless it is one of them
abbrev pub first_use : (Raw → Bool) → (Raw → ℕ) → List ℕ → Raw → List ℕ
first_use has of ns x = pick (has x && not (member (of x) ns)) (ns ++ (of x ∷ [])) ns

-- so of all nodes, in their order
unfoldable pub first_uses : (Raw → Bool) → (Raw → ℕ) → List ℕ → List Raw → List ℕ
first_uses has of ns [] = ns
first_uses has of ns (x ∷ xs) = first_uses has of (first_use has of ns x) xs

-- where a number stands among others, from 0
abbrev pub index_of : ℕ → List ℕ → ℕ
index_of n [] = 0
index_of n (m ∷ ms) = elim (eqb n m) [ true ↦ 0 | false ↦ suc (index_of n ms) ]

-- does the node use a text, and its number
abbrev pub has_text_number : Raw → Bool
has_text_number x = uses_text x.kind

abbrev pub text_number : Raw → ℕ
text_number x = x.text

-- a binding's or an identifier's context; the 8 bytes of a number are none
abbrev pub context : Raw → ℕ
context x = x.bits

unfoldable pub texts_used : Script → List ℕ
unfolding first_uses
texts_used s = first_uses has_text_number text_number [] s.nodes

unfoldable pub contexts_used : Script → List ℕ
unfolding first_uses
contexts_used s = first_uses has_id context [] s.nodes

-- a node with its text's and its context's new number
abbrev pub canon_node : List ℕ → List ℕ → Raw → Raw
canon_node ts cs x = record { kind = x.kind; form = x.form; arity = x.arity; text = pick (has_text_number x) (index_of x.text ts) 0; bits = pick (has_id x) (index_of x.bits cs) x.bits }

unfoldable pub canon : Script → Script
unfolding texts_used contexts_used
canon s = record { nodes = map (canon_node (texts_used s) (contexts_used s)) s.nodes; texts = map (text_at s) (texts_used s) }

-- A script as a tree file holds it: its nodes in preorder, and its texts. Assumes nothing: these are definitions.
use Rattle.std.specs.Prelude.{Bool, true, false, ◌&&◌, ◌||◌, not, List, [], ◌∷◌, ◌++◌, ℕ, suc, eqb, get_or}
use Rattle.def_tree.specs.Base.{pick}
use Rattle.def_file.specs.declared.Raw.{Raw}
use Rattle.def_file.specs.declared.kind.Kind.TheVariants.{BindingIdent, Ident, Null, Number, Str}
use Rattle.def_file.specs.Named.{number_of, is_kind, is_between}

pub record Script : Type 0 where
  pub nodes : List Raw
  pub texts : List (List ℕ)

-- literals: null, boolean, number, string
abbrev pub is_lit : Raw → Bool
is_lit x = is_between Null Str x.kind

-- bindings and identifiers
abbrev pub has_id : Raw → Bool
has_id x = is_kind BindingIdent x.kind || is_kind Ident x.kind

-- one identifier: one text and one context
abbrev pub same_id : Raw → Raw → Bool
same_id x y = eqb x.text y.text && eqb x.bits y.bits

abbrev pub same_text : List ℕ → List ℕ → Bool
same_text [] [] = true
same_text [] (b ∷ bs) = false
same_text (a ∷ as') [] = false
same_text (a ∷ as') (b ∷ bs) = eqb a b && same_text as' bs

-- the identifiers of a script, each by the first node that has it, in the order of these nodes
abbrev pub known : Raw → List Raw → Bool
known x [] = false
known x (y ∷ ys) = same_id x y || known x ys

abbrev pub enter : List Raw → Raw → List Raw
enter ids x = pick (has_id x && not (known x ids)) (ids ++ (x ∷ [])) ids

unfoldable pub enter_all : List Raw → List Raw → List Raw
enter_all ids [] = ids
enter_all ids (x ∷ xs) = enter_all (enter ids x) xs

unfoldable pub idents : Script → List Raw
unfolding enter_all
idents s = enter_all [] s.nodes

-- the number of a node's identifier, from 0
abbrev pub place_of : Raw → List Raw → ℕ
place_of x [] = 0
place_of x (y ∷ ys) = elim (same_id x y) [ true ↦ 0 | false ↦ suc (place_of x ys) ]

-- the number 0: what stands at node number 0
abbrev pub zero_node : Raw
zero_node = record { kind = number_of Number; form = 0; arity = 0; text = 0; bits = 0 }

-- nodes are numbered from 1
abbrev pub node_at : Script → ℕ → Raw
node_at s n = get_or (zero_node ∷ s.nodes) n zero_node

-- a r g u m e n t s
abbrev pub arguments : List ℕ
arguments = 97 ∷ 114 ∷ 103 ∷ 117 ∷ 109 ∷ 101 ∷ 110 ∷ 116 ∷ 115 ∷ []

abbrev pub text_at : Script → ℕ → List ℕ
text_at s n = get_or s.texts n []

abbrev pub is_arguments : Script → Raw → Bool
is_arguments s x = same_text (text_at s x.text) arguments

-- The nodes of a file as trees in the order of their text. Assumes nothing: these are definitions.
use Rattle.std.specs.Prelude.{◌&&◌, ◌||◌, List, ℕ, ◌+◌, ◌%◌, eqb, map}
use Rattle.def_tree.specs.Base.{pick}
use Rattle.def_tree.specs.Tree.{Tree, Forest, node, nil, cons, Core}
use Rattle.def_file.specs.declared.kind.Kind.TheVariants as Kinds
use Rattle.def_file.specs.Named.{is_kind}
use Rattle.file_read.specs.declared.header.Header.{Header}
use Rattle.def_text.specs.Words.{Word}
use Rattle.def_text.specs.Derives.{arranged, laid, laid_all}
use Rattle.def_text.specs.Entry.{own_number, print_node, spell}
use Rattle.words_nodes.specs.Nodes.{tree_from, forest_from}
use Rattle.text_words.specs.Decimals.{decimal_text}
use Rattle.text_tokens.specs.Tokens.{script_at, node_of}

-- what a node adds to the form of a declaration that is its first child
abbrev pub extra : ℕ → ℕ → ℕ
extra k f = pick (is_kind Kinds.For k && eqb (f % 2) 1) 3 (pick (is_kind Kinds.ForIn k || is_kind Kinds.ForOf k) 6 0)

abbrev pub form_of : ℕ → ℕ → ℕ → ℕ
form_of k f d = pick (is_kind Kinds.VarDecl k) (f + d) f

-- a tree laid out, with d added to the form of a declaration; trees, d being added to the first
abbrev pub with_form : ℕ → Tree → Tree
with_form d (node k f a ts) = node k (form_of k f d) a ts

abbrev pub lay : ℕ → Tree → Tree
lay d t = with_form d (laid t)

abbrev pub lay_first : ℕ → Forest → Forest
lay_first d nil = nil
lay_first d (cons t ts) = cons (lay d t) (laid_all ts)

module _ (bs : List ℕ) (h : Header) where
  abbrev pub cores : List Core
  cores = map print_node (script_at bs h).nodes

  -- the tree that begins at node k, and n trees from there on
  abbrev pub tree_of : ℕ → Tree
  tree_of k = tree_from cores k

  abbrev pub trees_of : ℕ → ℕ → Forest
  trees_of n k = forest_from cores n k

  -- a node's own text, number or string by its kind and number
  abbrev pub spelled : ℕ → ℕ → Word
  spelled = spell decimal_text (script_at bs h)

  -- node k's children laid out; its tree with that form
  abbrev pub kids_of : ℕ → Forest
  kids_of k = let x = node_of bs h k in arranged x.kind x.form (laid_all (trees_of x.arity (k + 1)))

  abbrev pub shown : ℕ → ℕ → Tree
  shown k f = let x = node_of bs h k in node x.kind f (own_number x) (kids_of k)

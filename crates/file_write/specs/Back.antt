-- A node of the words' tree turned back into a node of the file. Assumes nothing: these are definitions.
use Rattle.std.specs.Prelude.{◌≡◌, ◌&&◌, ◌||◌, List, ℕ, ◌+◌, ◌*◌, ◌≤◌, ltb, leb, length}
use Rattle.def_tree.specs.Base.{pick}
use Rattle.def_tree.specs.Tree.{Core}
use Rattle.def_file.specs.declared.Raw.{Raw}
use Rattle.def_file.specs.declared.kind.Kind.TheVariants.{BindingIdent, Ident, Null, Str}
use Rattle.def_file.specs.Named.{is_kind, is_between}
use Rattle.def_file.specs.Script.{zero_node}
use Rattle.def_file.specs.Read.{u32}
use Rattle.def_file.specs.Core.{has_text}
use Rattle.file_read.specs.Idents.{numbered}
use Rattle.words.specs.Layout.{ident_count, ident_word}

-- node number m of the file; the number 0 for node number 0 and past the file's nodes
unfoldable pub node_in : List ℕ → ℕ → Raw
node_in bs m = pick (leb 1 m && leb m (u32 bs 8)) (numbered bs m) zero_node

-- identifier i, by the node that its entry in the words names
unfoldable pub ident_in : List ℕ → List ℕ → ℕ → Raw
unfolding node_in
ident_in bs w i = pick (ltb i (ident_count w)) (node_in bs (ident_word w i)) zero_node

-- the text that a node of kind k keeps of node number m
unfoldable pub text_in : List ℕ → ℕ → ℕ → ℕ
unfolding node_in
text_in bs k m = pick (has_text k) (node_in bs m).text 0

-- a literal is the file's node, whole; an identifier has its own text and context; any other node may have a text
abbrev pub named : ℕ → ℕ → Raw → Raw
named k n x = record { kind = k; form = 0; arity = n; text = x.text; bits = x.bits }

abbrev pub plain : Core → ℕ → Raw
plain c t = record { kind = c.kind; form = c.form; arity = c.arity; text = t; bits = 0 }

unfoldable pub back_in : List ℕ → List ℕ → Core → Raw
unfolding node_in ident_in text_in
back_in bs w c =
    pick (is_between Null Str c.kind) (node_in bs c.num)
    (pick (is_kind BindingIdent c.kind || is_kind Ident c.kind) (named c.kind c.arity (ident_in bs w c.num)) (plain c (text_in bs c.kind c.num)))

-- a file of n nodes, and words enough
pub record Source (bs w : List ℕ) (n : ℕ) : Type 0 where
  pub count : n ≡ u32 bs 8
  pub few : n ≤ 1024
  pub room : 32 + 16 * n ≤ length bs
  pub long : 16384 ≤ length w

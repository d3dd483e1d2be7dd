-- What the walk makes of a node and its children. Assumes nothing: these are definitions.
use Rattle.std.specs.Prelude.{◌≡◌, T, Bool, true, false, List, [], ◌∷◌, ◌++◌, ℕ, ◌+◌, ◌-◌, ◌*◌, ◌≤◌, eqb, length, get_or, drop, Option, Some, None}
use Rattle.def_tree.specs.Base.{pick}
use Rattle.def_tree.specs.Tree.{Forest, count, counts}
use Rattle.file_read.specs.declared.header.Header.{Header}
use Rattle.file_read.specs.Load.{Kept}
use Rattle.def_text.specs.Words.{Word}
use Rattle.def_text.specs.Grammar.{is_for}
use Rattle.def_text.specs.Derives.{laid_all}
use Rattle.def_text.specs.Print as Print
use Rattle.text_table.specs.declared.Part.{Part}
use Rattle.text_table.specs.declared.Part.TheVariants as Parts
use Rattle.text_table.specs.declared.Kids.{Kids}
use Rattle.text_table.specs.Rows.{rows, no_row}
use Rattle.text_table.specs.Put as Put
use Rattle.text_parts.specs.Parts.{list_length, row_parts, kid_count, put_kids, put_parts}
use Rattle.text_tokens.specs.Tokens.{node_of, own_of}
use Rattle.text_tokens.specs.Bytes.{Tokens, rendered}
use Rattle.text_choice.specs.Trees.{extra, lay, lay_first, tree_of, trees_of, kids_of, spelled}
use Rattle.text_walk.specs.Lists.{used, listed, Pushed}

-- tokens put for nodes from k on, c of them, at most `room` tokens, or none where there are none. A node gives at most 14: one for each of the 11 parts of its
-- row, a pair, and a comma before it
pub record Printed (bs : List ℕ) (h : Header) (w w' : List ℕ) (o : Option (List Word)) (k c room e : ℕ) : Type 0 where
  pub tokens : List Word
  pub is : o ≡ Some tokens
  pub pushed : Pushed bs h w w' tokens
  pub few : used w' ≤ used w + room
  pub at : e ≡ k + c

abbrev pub PrintIs : List ℕ → Header → List ℕ → List ℕ → Option (List Word) → ℕ → ℕ → ℕ → Option ℕ → Type 0
PrintIs bs h w w' o k c room (Some e) = Printed bs h w w' o k c room e
PrintIs bs h w w' o k c room None = (o ≡ None) × Kept w w'

-- where default clauses are counted there are m children
pub record DefaultsFit (m : ℕ) (ps : List Part) : Type 0 where
  pub each : (j : ℕ) → get_or ps j Parts.End ≡ Parts.OneDefault → m ≤ kid_count m (drop j ps)

module _ (bs : List ℕ) (h : Header) where
  -- what node k adds to the form of a declaration at `at`, if that is its first child
  abbrev pub extra_at : ℕ → ℕ → ℕ
  extra_at k i = pick (eqb i (k + 1)) (extra (node_of bs h k).kind (node_of bs h k).form) 0

  -- n children of node k, the first of which begins at i
  abbrev pub laid_from : ℕ → ℕ → ℕ → Forest
  laid_from k n i = lay_first (extra_at k i) (trees_of bs h n i)

  -- row r is one for node k
  abbrev pub RowFor : ℕ → ℕ → Type 0
  RowFor k r = let x = node_of bs h k in (f : ℕ) × T (is_for x.kind f x.arity (get_or rows r no_row).rule)

  abbrev pub put_tree : ℕ → ℕ → Put.Spot → Option (List Word)
  put_tree k d s = Put.put (spelled bs h) (lay d (tree_of bs h k)) s

  abbrev pub put_row : ℕ → ℕ → Put.Spot → Option (List Word)
  put_row k r s = put_parts (spelled bs h) (own_of bs h k) (list_length r (node_of bs h k).arity) s s.bars s.next (row_parts r) (kids_of bs h k)

  abbrev pub put_right : ℕ → ℕ → Put.Spot → List Part → ℕ → Option (List Word)
  put_right k m s ps i = put_parts (spelled bs h) (own_of bs h k) m s s.bars s.next ps (laid_from k (kid_count m ps) i)

  abbrev pub put_list : ℕ → Kids → Put.Spot → List (List Word) → List Word → ℕ → ℕ → Option (List Word)
  put_list k x s bars last n i = put_kids (spelled bs h) x s true bars last (laid_from k n i)

  -- what each function of the walk answers and leaves: of a tree, of a node by a row, of parts of a row, and of n children at a part
  abbrev pub TreeIs : List ℕ → List ℕ → ℕ → ℕ → Put.Spot → Option ℕ → Type 0
  TreeIs w w' k d s r = PrintIs bs h w w' (put_tree k d s) k (count (tree_of bs h k)) (14 * count (tree_of bs h k) - 1) r

  abbrev pub RowIs : List ℕ → List ℕ → ℕ → ℕ → Put.Spot → Option ℕ → Type 0
  RowIs w w' k row s r = PrintIs bs h w w' (put_row k row s) k (count (tree_of bs h k)) (14 * count (tree_of bs h k) - 3) r

  abbrev pub RightIs : List ℕ → List ℕ → ℕ → ℕ → Put.Spot → List Part → ℕ → Option ℕ → Type 0
  RightIs w w' k m s ps i r = let c = counts (trees_of bs h (kid_count m ps) i) in PrintIs bs h w w' (put_right k m s ps i) i c (length ps + 14 * c) r

  abbrev pub ListIs : List ℕ → List ℕ → ℕ → Kids → Put.Spot → List (List Word) → List Word → ℕ → ℕ → Option ℕ → Type 0
  ListIs w w' k x s bars last n i r = let c = counts (trees_of bs h n i) in PrintIs bs h w w' (put_list k x s bars last n i) i c (14 * c) r

  -- the statements of the script
  abbrev pub statements : Forest
  statements = trees_of bs h (node_of bs h 0).arity 1

  abbrev pub put_script : Option (List (List Word))
  put_script = Put.put_all (spelled bs h) (laid_all statements) (Put.items (node_of bs h 0).arity)

-- the bytes of statements
abbrev pub lines_of : List (List Word) → List ℕ
lines_of [] = []
lines_of (ws ∷ ls) = Print.joined ws ++ (10 ∷ lines_of ls)

-- the tokens of the script's statements, each with the end of its line, and their bytes
pub record Lined (bs : List ℕ) (h : Header) (w w' : List ℕ) (o : Option (List (List Word))) : Type 0 where
  pub lists : List (List Word)
  pub is : o ≡ Some lists
  pub tokens : Tokens bs h w' (used w')
  pub bytes : rendered bs h (listed w') ≡ lines_of lists
  pub kept : Kept w w'

abbrev pub ScriptIs : List ℕ → Header → List ℕ → List ℕ → Bool → Type 0
ScriptIs bs h w w' true = Lined bs h w w' (put_script bs h)
ScriptIs bs h w w' false = (put_script bs h ≡ None) × Kept w w'

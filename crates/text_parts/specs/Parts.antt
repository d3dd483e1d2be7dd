-- A row's parts as the constant table has them: what stands first in what is left of a row, and the tokens that a node's own text and children give by
-- it. Assumes nothing: these are definitions.
use Rattle.std.specs.Prelude.{Bool, true, false, List, [], ◌∷◌, ◌++◌, ℕ, zero, suc, ◌+◌, ◌-◌, ◌<◌, eqb, leb, Option, Some, None, get_or}
use Rattle.def_tree.specs.Base.{pick}
use Rattle.def_tree.specs.Tree.{Forest, nil, cons, length_f, take_f, drop_f}
use Rattle.def_text.specs.Words.{Word}
use Rattle.def_text.specs.Grammar.{singles}
use Rattle.text_table.specs.declared.Style.{Style}
use Rattle.text_table.specs.declared.Style.TheVariants as Styles
use Rattle.text_table.specs.declared.Kids.{Kids}
use Rattle.text_table.specs.declared.Part.{Part}
use Rattle.text_table.specs.declared.Part.TheVariants as Parts
use Rattle.text_table.specs.Rows.{rows, no_row, parts_of}
use Rattle.text_table.specs.Put.{Spot, if_barred, default_count, around, put}
use Rattle.text_words.specs.Words.{word}
use Rattle.text_rows.specs.Rows.{below}
use Rattle.text_tokens.specs.Tokens.{SortFits, own_ok}
use Rattle.text_spots.specs.Spots.{bars_of}

-- the comma's token, word 84 of the productions
abbrev pub comma : List Word
comma = word 84 ∷ []

-- what stands first in a list of m children, where r stands first behind it
abbrev pub first_of_list : Style → ℕ → List Word → List Word
first_of_list Styles.One m r = []
first_of_list Styles.Run m r = pick (eqb m 0) r []
first_of_list Styles.Commas m r = pick (eqb m 0) r []
first_of_list Styles.More m r = pick (eqb m 0) r comma

-- the token that stands first in parts, each list in which has m children, and n behind them
abbrev pub follow_parts : ℕ → List Part → List Word → List Word
follow_parts m [] n = n
follow_parts m (Parts.End ∷ ps) n = n
follow_parts m (Parts.Word i ∷ ps) n = word i ∷ []
follow_parts m (Parts.Own q ∷ ps) n = []
follow_parts m (Parts.Kids x ∷ ps) n = first_of_list x.style m (follow_parts m ps n)
follow_parts m (Parts.Look b ∷ ps) n = follow_parts m ps n
follow_parts m (Parts.Has p ∷ ps) n = follow_parts m ps n
follow_parts m (Parts.HasNot p ∷ ps) n = follow_parts m ps n
follow_parts m (Parts.OneDefault ∷ ps) n = follow_parts m ps n

-- the tokens that parts themselves begin with, as `opening_of` of def_text: o is the node's own, n stands behind, `first` are those of a first child that is a pattern
abbrev pub begin_list : Style → ℕ → List Word → List Word → List Word
begin_list Styles.One m first r = first
begin_list Styles.Run m first r = pick (eqb m 0) r first
begin_list Styles.Commas m first r = pick (eqb m 0) r first
begin_list Styles.More m first r = pick (eqb m 0) r (comma)

abbrev pub begin_parts : ℕ → Word → List Word → List Word → List Part → List Word
begin_parts m o n first [] = []
begin_parts m o n first (Parts.End ∷ ps) = []
begin_parts m o n first (Parts.Word i ∷ ps) = word i ∷ follow_parts m ps n
begin_parts m o n first (Parts.Own q ∷ ps) = o ∷ follow_parts m ps n
begin_parts m o n first (Parts.Kids x ∷ ps) = begin_list x.style m first (begin_parts m o n first ps)
begin_parts m o n first (Parts.Look b ∷ ps) = begin_parts m o n first ps
begin_parts m o n first (Parts.Has p ∷ ps) = begin_parts m o n first ps
begin_parts m o n first (Parts.HasNot p ∷ ps) = begin_parts m o n first ps
begin_parts m o n first (Parts.OneDefault ∷ ps) = begin_parts m o n first ps

-- how many children stand at a part, and at parts
abbrev pub how_many : Style → ℕ → ℕ
how_many Styles.One m = 1
how_many Styles.Run m = m
how_many Styles.Commas m = m
how_many Styles.More m = m

abbrev pub kid_count : ℕ → List Part → ℕ
kid_count m [] = 0
kid_count m (Parts.End ∷ ps) = 0
kid_count m (Parts.Word i ∷ ps) = kid_count m ps
kid_count m (Parts.Own q ∷ ps) = kid_count m ps
kid_count m (Parts.Kids x ∷ ps) = how_many x.style m + kid_count m ps
kid_count m (Parts.Look b ∷ ps) = kid_count m ps
kid_count m (Parts.Has p ∷ ps) = kid_count m ps
kid_count m (Parts.HasNot p ∷ ps) = kid_count m ps
kid_count m (Parts.OneDefault ∷ ps) = kid_count m ps

-- a part is one for nodes of kind k: its word is one of the productions', its own text is the kind's, its place is one of printing
abbrev pub PartFits : ℕ → Part → Type 0
PartFits k (Parts.Word i) = i < 85
PartFits k (Parts.Own q) = SortFits k q
PartFits k (Parts.Kids x) = x.place < 53
PartFits k p = Unit {0}

pub record PartsFit (k : ℕ) (ps : List Part) : Type 0 where
  pub each : (j : ℕ) → PartFits k (get_or ps j Parts.End)

-- ---- tokens

abbrev pub in_front : List Word → Option (List Word) → Option (List Word)
in_front w None = None
in_front w (Some ws) = Some (w ++ ws)

abbrev pub joined : Option (List Word) → Option (List Word) → Option (List Word)
joined None vs = None
joined (Some ws) vs = in_front ws vs

abbrev pub in_pair : Bool → Option (List Word) → Option (List Word)
in_pair b None = None
in_pair b (Some ws) = Some (around b ws)

-- the comma before a child of a list, which is its first or not
abbrev pub comma_before : Style → Bool → List Word
comma_before Styles.One first = []
comma_before Styles.Run first = []
comma_before Styles.Commas first = pick first [] comma
comma_before Styles.More first = comma

-- what stands behind a child that m others of its list stand behind
abbrev pub behind_child : Style → ℕ → List Word → List Word
behind_child s zero last = last
behind_child Styles.One (suc m) last = comma
behind_child Styles.Run (suc m) last = []
behind_child Styles.Commas (suc m) last = comma
behind_child Styles.More (suc m) last = comma

-- what is barred behind some tokens
abbrev pub bars_behind : List Word → List (List Word) → List (List Word)
bars_behind [] bs = bs
bars_behind (w ∷ ws) bs = []

-- where a child stands
abbrev pub child_spot : Kids → Spot → List (List Word) → List Word → Spot
child_spot x s bs n = record { place = x.place; has_in = below x.has_in s.has_in; has_return = below x.has_return s.has_return; has_else = below x.has_else s.has_else; bars = bs; next = if_barred bs n }

module _ (spell : ℕ → ℕ → Word) where
  -- the children that stand at a part of a node at s; bs is barred before the first, and `last` stands behind the last
  abbrev pub put_kids : Kids → Spot → Bool → List (List Word) → List Word → Forest → Option (List Word)
  put_kids x s first bs last nil = Some []
  put_kids x s first bs last (cons t ts) =
      let c = comma_before x.style first in
      in_front c (joined (put spell t (child_spot x s (bars_behind c bs) (behind_child x.style (length_f ts) last))) (put_kids x s false [] last ts))

  -- parts of a row for a node at s, of whose own token and remaining children o and ts are what is left; bs is barred here, and n stands behind the parts
  abbrev pub put_parts : Word → ℕ → Spot → List (List Word) → List Word → List Part → Forest → Option (List Word)
  put_parts o m s bs n [] ts = Some []
  put_parts o m s bs n (Parts.End ∷ ps) ts = Some []
  put_parts o m s bs n (Parts.Word i ∷ ps) ts = in_front (word i ∷ []) (put_parts o m s [] n ps ts)
  put_parts o m s bs n (Parts.Own q ∷ ps) ts = elim (own_ok o q) [ true ↦ in_front (o ∷ []) (put_parts o m s [] n ps ts) | false ↦ None ]
  put_parts o m s bs n (Parts.Kids x ∷ ps) ts =
      joined (put_kids x s true bs (if_barred bs (follow_parts m ps n)) (take_f (how_many x.style m) ts)) (put_parts o m s [] s.next ps (drop_f (how_many x.style m) ts))
  put_parts o m s bs n (Parts.Look b ∷ ps) ts = put_parts o m s (bars_of b) [] ps ts
  put_parts o m s bs n (Parts.Has p ∷ ps) ts = put_parts o m s bs n ps ts
  put_parts o m s bs n (Parts.HasNot p ∷ ps) ts = put_parts o m s bs n ps ts
  put_parts o m s bs n (Parts.OneDefault ∷ ps) ts = elim (leb (default_count (take_f m ts)) 1) [ true ↦ put_parts o m s bs n ps ts | false ↦ None ]

-- row i of the table, its parts, and how many children its list has for a node of n
abbrev pub row_parts : ℕ → List Part
row_parts i = parts_of (get_or rows i no_row)

abbrev pub list_length : ℕ → ℕ → ℕ
list_length i n = n - singles (get_or rows i no_row).rule.right

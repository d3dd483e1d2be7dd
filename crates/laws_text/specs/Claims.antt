-- What is claimed of printing, for every way to spell. Assumes nothing: these are definitions.
use Rattle.std.specs.Prelude.{◌≡◌, T, Bool, true, false, ◌&&◌, ◌||◌, not, List, [], ◌∷◌, ◌++◌, ◌⊎◌, ℕ, eqb}
use Rattle.def_tree.specs.Tree.{Tree, Forest, node, nil, cons, kind}
use Rattle.def_file.specs.Kinds.{is_expr}
use Rattle.def_text.specs.Words.{Word, some}
use Rattle.def_text.specs.Derives.{barred, is_paren, erase, tokens, derives, laid, Reads}
use Rattle.def_text.specs.Print.{At, start, in_pair, Walk, first_places, passed_by, wrap, lacks, chosen, fix, fix_all, printed, has_text, text}
use Rattle.def_text.specs.Lexing.{Lexes}

-- kind 41 as a tree file has it: no form, one child, which is an expression
abbrev pub one_expression : Forest → Bool
one_expression nil = false
one_expression (cons t nil) = is_expr (kind t)
one_expression (cons t (cons u ts)) = false

abbrev mutual
  pub pairs_ok : Tree → Bool
  pairs_ok (node k f a ts) = (not (is_paren k) || (eqb f 0 && eqb a 0 && one_expression ts)) && all_pairs_ok ts

  pub all_pairs_ok : Forest → Bool
  all_pairs_ok nil = true
  all_pairs_ok (cons t ts) = pairs_ok t && all_pairs_ok ts

-- the same with a pair round what may be assigned to, too
abbrev pub one_inside : Forest → Bool
one_inside nil = false
one_inside (cons t nil) = in_pair (kind t)
one_inside (cons t (cons u ts)) = false

abbrev pub pair_ok : ℕ → ℕ → ℕ → Forest → Bool
pair_ok k f a ts = not (is_paren k) || (eqb f 0 && eqb a 0 && one_inside ts)

abbrev mutual
  pub paired : Tree → Bool
  paired (node k f a ts) = pair_ok k f a ts && all_paired ts

  pub all_paired : Forest → Bool
  all_paired nil = true
  all_paired (cons t ts) = paired t && all_paired ts

module _ (spell : ℕ → ℕ → Word) where
  -- "the printed text always reads as that tree"
  abbrev pub Sound : Type 0
  Sound = (t : Tree) → T (has_text spell t) → Reads spell (tokens spell (printed spell t)) (laid t)

  -- v is what `fix` makes of the tree at these places, with one of the pairs that it adds left out
  abbrev mutual
    pub Less : Tree → List At → Tree → Type 0
    Less (node k f a ts) ss v =
        ((lacks spell k f a ts ss ≡ true) × (v ≡ node k f a (fix_all spell ts (chosen spell k f a ts ss))))
        ⊎ ((us : Forest) × LessAll ts (chosen spell k f a ts ss) us × (v ≡ wrap (lacks spell k f a ts ss) (node k f a us)))

    pub LessAll : Forest → List Walk → Forest → Type 0
    LessAll nil ws us = ⊥
    LessAll (cons t ts) ws us =
        ((u : Tree) × Less t (first_places ws) u × (us ≡ cons u (fix_all spell ts (passed_by ws))))
        ⊎ ((vs : Forest) × LessAll ts (passed_by ws) vs × (us ≡ cons (fix spell t (first_places ws)) vs))

  -- "An added pair is never there if the text without it still reads as the same tree"
  abbrev pub Least : Type 0
  Least = (t v : Tree) → T (pairs_ok t) → Less (laid t) (start ∷ []) v → Reads spell (tokens spell v) (laid t) → ⊥

  -- v is what `fix` makes of the tree at these places, but where it adds one of the pairs there stands the same expression in another way: without a pair
  -- round all of it, and with any pairs round smaller expressions inside
  abbrev mutual
    pub Elsewhere : Tree → List At → Tree → Type 0
    Elsewhere (node k f a ts) ss v =
        ((lacks spell k f a ts ss ≡ true) × (is_paren k ≡ false) × (is_paren (kind v) ≡ false) × (erase v ≡ erase (node k f a ts)) × T (paired v))
        ⊎ ((us : Forest) × ElsewhereAll ts (chosen spell k f a ts ss) us × (v ≡ wrap (lacks spell k f a ts ss) (node k f a us)))

    pub ElsewhereAll : Forest → List Walk → Forest → Type 0
    ElsewhereAll nil ws us = ⊥
    ElsewhereAll (cons t ts) ws us =
        ((u : Tree) × Elsewhere t (first_places ws) u × (us ≡ cons u (fix_all spell ts (passed_by ws))))
        ⊎ ((vs : Forest) × ElsewhereAll ts (passed_by ws) vs × (us ≡ cons (fix spell t (first_places ws)) vs))

  -- an added pair stands "round the smallest expression that helps": with pairs inside of it in its place the text does not read as the tree
  abbrev pub NoneInside : Type 0
  NoneInside = (t v : Tree) → T (pairs_ok t) → Elsewhere (laid t) (start ∷ []) v → Reads spell (tokens spell v) (laid t) → ⊥

  -- derived at one of the places, and not beginning as it may not
  abbrev pub stands : Tree → At → Bool
  stands u s = derives spell u s.place && not (barred s.bars (tokens spell u ++ s.next))

  -- "round the smallest expression that helps": where `fix` puts a pair round a node, each derivation of it at these places has a pair round all of it, so
  -- none has one round a smaller expression inside alone
  abbrev pub Smallest : Type 0
  Smallest = (k f a : ℕ) (ts : Forest) (ss : List At) (u : Tree) → lacks spell k f a ts ss ≡ true → is_paren k ≡ false
      → T (some (stands u) ss) → erase u ≡ erase (node k f a ts) → T (is_paren (kind u))

  -- "12 when no text of that grammar reads as the tree": where any text reads as it, the printed one does
  abbrev pub Refused : Type 0
  Refused = (t : Tree) (ws : List Word) → T (pairs_ok t) → Reads spell ws (laid t) → T (has_text spell t)

  -- the printed bytes have the printed tokens
  abbrev pub Lexed : Type 0
  Lexed = (t : Tree) → T (has_text spell t) → Lexes (text spell t) (tokens spell (printed spell t))

-- A tree's tokens by the rows: at each node the row that stands at its place, or a pair around it. Assumes nothing: these are definitions.
use Rattle.std.specs.Prelude.{Bool, true, false, ◌&&◌, ◌||◌, List, [], ◌∷◌, ◌++◌, map, ℕ, zero, suc, ◌/◌, ◌%◌, ◌^◌, eqb, leb, Option, Some, None, get_or, codes}
use Rattle.def_tree.specs.Base.{pick}
use Rattle.def_tree.specs.Tree.{Tree, Forest, node, nil, cons, length_f, tail_f}
use Rattle.def_file.specs.declared.kind.Kind.TheVariants as Kinds
use Rattle.def_file.specs.Named.{number_of}
use Rattle.def_text.specs.Words.{Word}
use Rattle.def_text.specs.Grammar.{Symbol, Script, StatementListItem, Statement, Declaration, Block, FunctionBody, Catch, CaseClause, VariableBinding, ForBinding, ForInit, ForHead, PropertyDefinition, BindingIdentifier, BindingPattern, BindingTarget, BindingElement, BindingProperty, AssignmentTarget, AssignmentPattern, AssignmentElement, DestructuringAssignmentTarget, AssignmentProperty, Expression, AssignmentExpression, ConditionalExpression, ShortCircuitExpression, CoalesceExpressionHead, CoalesceExpression, LogicalORExpression, LogicalANDExpression, BitwiseORExpression, BitwiseXORExpression, BitwiseANDExpression, EqualityExpression, RelationalExpression, ShiftExpression, AdditiveExpression, MultiplicativeExpression, ExponentiationExpression, UnaryExpression, UpdateExpression, LeftHandSideExpression, NewExpression, CallExpression, MemberExpression, PrimaryExpression, Place, Slot, by_mode, Part, word, own, kid, run, commas, more, look, if_has, if_not, one_default, is_for, right_for}
use Rattle.def_text.specs.Table.{code}
use Rattle.def_text.specs.Derives.{barred, sort_ok, is_default, number_ok, fill}
use Rattle.def_text.specs.Print.{At, follow, asked, in_pair, opening}
use Rattle.text_table.specs.Rows.{sets, Row, rows, place_of}

-- the nonterminals at a place
abbrev pub symbols : List Symbol
symbols =
    Script ∷ StatementListItem ∷ Statement ∷ Declaration ∷ Block ∷ FunctionBody ∷ Catch ∷ CaseClause ∷ VariableBinding ∷ ForBinding ∷ ForInit ∷ ForHead ∷ PropertyDefinition
    ∷ BindingIdentifier ∷ BindingPattern ∷ BindingTarget ∷ BindingElement ∷ BindingProperty ∷ AssignmentTarget ∷ AssignmentPattern ∷ AssignmentElement ∷ AssignmentProperty
    ∷ Expression ∷ AssignmentExpression ∷ ConditionalExpression ∷ ShortCircuitExpression ∷ CoalesceExpressionHead ∷ CoalesceExpression ∷ LogicalORExpression ∷ LogicalANDExpression
    ∷ BitwiseORExpression ∷ BitwiseXORExpression ∷ BitwiseANDExpression ∷ EqualityExpression ∷ RelationalExpression ∷ ShiftExpression ∷ AdditiveExpression
    ∷ MultiplicativeExpression ∷ ExponentiationExpression ∷ UnaryExpression ∷ UpdateExpression ∷ LeftHandSideExpression ∷ NewExpression ∷ CallExpression ∷ MemberExpression
    ∷ PrimaryExpression ∷ DestructuringAssignmentTarget ∷ []

unfoldable pub members : ℕ → List Symbol
members c = get_or (map (λ (y : Symbol). y ∷ []) symbols ++ sets) c []

-- a place with its parameters, what the tokens there may not begin with, and then the token behind them, if it is known
pub record Spot : Type 0 where
  pub place : ℕ
  pub has_in : Bool
  pub has_return : Bool
  pub has_else : Bool
  pub bars : List (List Word)
  pub next : List Word

abbrev pub start : Spot
start = record { place = 0; has_in = true; has_return = false; has_else = false; bars = []; next = [] }

abbrev pub symbol_at : Spot → Symbol → Place
symbol_at s y = record { symbol = y; has_in = s.has_in; has_return = s.has_return; has_else = s.has_else }

-- a declaration's place in the head of a for and a pattern's before `=` have nothing barred
abbrev pub is_bare : Symbol → Bool
is_bare y = eqb (code y) (code AssignmentPattern) || eqb (code y) (code ForInit) || eqb (code y) (code ForHead)

abbrev pub at_of : Spot → Symbol → At
at_of s y = record { place = symbol_at s y; bars = pick (is_bare y) [] s.bars; next = s.next }

-- the places of def_text that a spot stands for
abbrev pub ats : Spot → List At
ats s = map (at_of s) (members s.place)

-- those that have nothing barred
unfoldable pub freed : ℕ → ℕ
freed c = pick (eqb c 47) 10 (pick (eqb c 48) 51 (pick (eqb c 49) 19 (pick (eqb c 10 || eqb c 11 || eqb c 19 || eqb c 51) c 52)))

abbrev pub free : Spot → Spot
free s = record { place = freed s.place; has_in = s.has_in; has_return = s.has_return; has_else = s.has_else; bars = []; next = [] }

-- ---- rows

-- bit c of m
abbrev pub has_bit : ℕ → ℕ → Bool
has_bit m c = eqb (m / 2 ^ c % 2) 1

abbrev pub stands : ℕ → ℕ → ℕ → Spot → Row → Bool
stands k f n s r = is_for k f n r.rule && has_bit r.at s.place && asked (symbol_at s Script) (right_for n r.rule)

abbrev pub first_row : (Row → Bool) → List Row → Option Row
first_row p [] = None
first_row p (r ∷ rs) = elim (p r) [ true ↦ Some r | false ↦ first_row p rs ]

unfoldable pub stand : ℕ → ℕ → ℕ → Spot → Option Row
stand k f n s = first_row (stands k f n s) rows

-- ---- children

-- the token behind matters only where something is barred
abbrev pub if_barred : List (List Word) → List Word → List Word
if_barred [] n = []
if_barred (b ∷ bs) n = n

abbrev pub below : Option ℕ → Spot → List (List Word) → List Word → Slot → Spot
below c s bs n x = record { place = place_of c x; has_in = by_mode x.in_mode s.has_in; has_return = by_mode x.return_mode s.has_return; has_else = by_mode x.else_mode s.has_else; bars = bs; next = if_barred bs n }

-- where the children of a right side stand, the first at the place c, if that is a set; bs is barred before the right side, and n behind it
abbrev pub spots : Option ℕ → Spot → List (List Word) → List Word → List Part → List Spot
spots c s bs n [] = []
spots c s bs n (word w ∷ ps) = spots c s [] n ps
spots c s bs n (own o ∷ ps) = spots c s [] n ps
spots c s bs n (kid x ∷ ps) = below c s bs (follow ps n) x ∷ spots None s [] s.next ps
spots c s bs n (run x ∷ ps) = []
spots c s bs n (commas x ∷ ps) = []
spots c s bs n (more x ∷ ps) = []
spots c s bs n (look cs ∷ ps) = spots c s cs [] ps
spots c s bs n (if_has p ∷ ps) = spots c s bs n ps
spots c s bs n (if_not p ∷ ps) = spots c s bs n ps
spots c s bs n (one_default ∷ ps) = spots c s bs n ps

abbrev pub spots_of : Row → ℕ → Spot → List Spot
spots_of r n s = spots r.first s s.bars s.next (right_for n r.rule)

abbrev pub first_spot : List Spot → Option Spot
first_spot [] = None
first_spot (s ∷ ss) = Some s

-- where a node in a pair stands
abbrev pub inner : Spot → Option Spot
inner s = elim (stand (number_of Kinds.Paren) 0 1 s) [ None ↦ None | Some r ↦ first_spot (spots_of r 1 s) ]

-- how many of the children are default clauses
abbrev pub default_count : Forest → ℕ
default_count nil = 0
default_count (cons t ts) = pick (is_default t) (suc (default_count ts)) (default_count ts)

-- the node's own text and its children are what the right side asks for, but for where the children stand
abbrev pub parts_ok : Word → Forest → List Part → Bool
parts_ok o ts [] = true
parts_ok o ts (word w ∷ ps) = parts_ok o ts ps
parts_ok o ts (own s ∷ ps) = sort_ok s o && parts_ok o ts ps
parts_ok o ts (kid x ∷ ps) = parts_ok o (tail_f ts) ps
parts_ok o ts (run x ∷ ps) = parts_ok o ts ps
parts_ok o ts (commas x ∷ ps) = parts_ok o ts ps
parts_ok o ts (more x ∷ ps) = parts_ok o ts ps
parts_ok o ts (look cs ∷ ps) = parts_ok o ts ps
parts_ok o ts (if_has p ∷ ps) = parts_ok o ts ps
parts_ok o ts (if_not p ∷ ps) = parts_ok o ts ps
parts_ok o ts (one_default ∷ ps) = leb (default_count ts) 1 && parts_ok o ts ps

-- the row by which a node is printed, where it stands then, and is a pair put round it
pub record Choice : Type 0 where
  pub row : Row
  pub spot : Spot
  pub paired : Bool

abbrev pub chosen : Option Row → Spot → Bool → Option Choice
chosen None s b = None
chosen (Some r) s b = Some (record { row = r; spot = s; paired = b })

abbrev pub in_inner : ℕ → ℕ → ℕ → Option Spot → Option Choice
in_inner k f n None = None
in_inner k f n (Some s) = chosen (stand k f n s) s true

abbrev pub or_paired : Option Row → Spot → Option Choice → Option Choice
or_paired None s c = c
or_paired (Some r) s c = Some (record { row = r; spot = s; paired = false })

-- the tokens in a pair
abbrev pub around : Bool → List Word → List Word
around true ws = codes "(" ∷ (ws ++ (codes ")" ∷ []))
around false ws = ws

abbrev pub both : Option (List Word) → Option (List (List Word)) → Option (List (List Word))
both None ls = None
both (Some l) None = None
both (Some l) (Some ls) = Some (l ∷ ls)

abbrev pub made : Choice → ℕ → Word → Option (List (List Word)) → Option (List Word)
made c n o None = None
made c n o (Some ls) = Some (around c.paired (fill o (right_for n c.row.rule) ls))

module _ (spell : ℕ → ℕ → Word) where
  -- the spot at which a node stands as it is
  abbrev pub as_is : Tree → Spot → Spot
  as_is t s = pick (barred s.bars (opening spell t s.next)) (free s) s

  unfoldable pub choice : Tree → Spot → Option Choice
  choice (node k f a ts) s =
      let here = as_is (node k f a ts) s in
      or_paired (stand k f (length_f ts) here) here (pick (in_pair k) (in_inner k f (length_f ts) (inner s)) None)

  -- the tokens of a tree at a spot; none where no text has it
  abbrev mutual
    pub put : Tree → Spot → Option (List Word)
    put (node k f a ts) s = elim (choice (node k f a ts) s) [
      | None ↦ None
      | Some c ↦ elim (number_ok k a && parts_ok (spell k a) ts (right_for (length_f ts) c.row.rule)) [
        | false ↦ None
        | true ↦ made c (length_f ts) (spell k a) (put_all ts (spots_of c.row (length_f ts) c.spot))
      ]
    ]

    pub put_all : Forest → List Spot → Option (List (List Word))
    put_all nil [] = Some []
    put_all nil (s ∷ ss) = None
    put_all (cons t ts) [] = None
    put_all (cons t ts) (s ∷ ss) = both (put t s) (put_all ts ss)

-- ---- a script

-- where a statement of a script stands
abbrev pub item : Spot
item = record { place = 1; has_in = true; has_return = false; has_else = false; bars = []; next = [] }

abbrev pub items : ℕ → List Spot
items zero = []
items (suc n) = item ∷ items n

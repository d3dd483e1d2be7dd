-- The rows by which a script is printed: ECMA-262's productions (def_text), each with the places at which it stands. A place is a nonterminal by its
-- number, or a set of nonterminals at which one node may stand. Assumes nothing: these are definitions.
use Rattle.std.specs.Prelude.{Bool, true, false, ◌&&◌, List, [], ◌∷◌, ◌++◌, ℕ, zero, suc, Option, Some, None, get_or, codes}
use Rattle.def_tree.specs.Base.{pick}
use Rattle.def_file.specs.Script.{same_text}
use Rattle.def_text.specs.Words.{Word}
use Rattle.def_text.specs.Grammar as Grammar
use Rattle.def_text.specs.Grammar.{Symbol, Script, Expression, AssignmentTarget, AssignmentPattern, ForInit, ForHead, MemberExpression, CallExpression, Slot, Rule, singles, has_list, is_for}
use Rattle.def_text.specs.Table.{code, rules, statement_start, let_bracket, of_start}
use Rattle.text_table.specs.declared.Row.{Row as Entry}
use Rattle.text_table.specs.declared.Part.{Part}
use Rattle.text_table.specs.declared.Part.TheVariants as Parts
use Rattle.text_table.specs.declared.Mode.{Mode}
use Rattle.text_table.specs.declared.Mode.TheVariants as Modes
use Rattle.text_table.specs.declared.Sort.{Sort}
use Rattle.text_table.specs.declared.Sort.TheVariants as Sorts
use Rattle.text_table.specs.declared.Parameter.{Parameter}
use Rattle.text_table.specs.declared.Parameter.TheVariants as Parameters
use Rattle.text_table.specs.declared.Guard.{Guard}
use Rattle.text_table.specs.declared.Guard.TheVariants as Guards
use Rattle.text_table.specs.declared.Bars.{Bars}
use Rattle.text_table.specs.declared.Bars.TheVariants as Barred
use Rattle.text_table.specs.declared.Style.{Style}
use Rattle.text_table.specs.declared.Style.TheVariants as Styles

-- the tokens that productions themselves have
unfoldable pub words : List Word
words =
    codes "{" ∷ codes "}" ∷ codes ";" ∷ codes "var" ∷ codes "let" ∷ codes "const" ∷ codes "=" ∷ codes "function" ∷ codes "(" ∷ codes ")" ∷ codes "return" ∷ codes "if" ∷ codes "else" ∷ codes "while"
    ∷ codes "do" ∷ codes "for" ∷ codes "in" ∷ codes "of" ∷ codes "throw" ∷ codes "try" ∷ codes "finally" ∷ codes "catch" ∷ codes "switch" ∷ codes "default" ∷ codes ":" ∷ codes "case" ∷ codes "break" ∷ codes "continue"
    ∷ codes "null" ∷ codes "false" ∷ codes "true" ∷ codes "this" ∷ codes "[" ∷ codes "]" ∷ codes "void" ∷ codes "typeof" ∷ codes "!" ∷ codes "-" ∷ codes "+" ∷ codes "~" ∷ codes "delete" ∷ codes "++"
    ∷ codes "--" ∷ codes "&&" ∷ codes "||" ∷ codes "==" ∷ codes "!=" ∷ codes "===" ∷ codes "!==" ∷ codes "<" ∷ codes "<=" ∷ codes ">" ∷ codes ">=" ∷ codes "<<" ∷ codes ">>" ∷ codes ">>>"
    ∷ codes "*" ∷ codes "/" ∷ codes "%" ∷ codes "|" ∷ codes "^" ∷ codes "&" ∷ codes "instanceof" ∷ codes "**" ∷ codes "??" ∷ codes "+=" ∷ codes "-=" ∷ codes "*=" ∷ codes "/=" ∷ codes "%="
    ∷ codes "<<=" ∷ codes ">>=" ∷ codes ">>>=" ∷ codes "|=" ∷ codes "^=" ∷ codes "&=" ∷ codes "**=" ∷ codes "&&=" ∷ codes "||=" ∷ codes "??=" ∷ codes "?" ∷ codes "new" ∷ codes "." ∷ codes "=>"
    ∷ codes "," ∷ []

-- the sets of nonterminals, behind the 47 nonterminals themselves: where a for's start, the target of a for-in or for-of, or of `=`, and what a call or a
-- member is of may stand; and the last one without its target
abbrev pub sets : List (List Symbol)
sets =
    (Expression ∷ ForInit ∷ [])
    ∷ (AssignmentTarget ∷ AssignmentPattern ∷ ForHead ∷ [])
    ∷ (AssignmentTarget ∷ AssignmentPattern ∷ [])
    ∷ (MemberExpression ∷ CallExpression ∷ [])
    ∷ (AssignmentPattern ∷ ForHead ∷ [])
    ∷ []

-- a production, the place of its first child, if that is a set, and the places at which it stands, a bit for each
pub record Row : Type 0 where
  pub rule : Rule
  pub first : Option ℕ
  pub at : ℕ

abbrev pub no_rule : Rule
no_rule = record { kind = 0; form = 0; left = Script; right = [] }

abbrev row : ℕ → Option ℕ → ℕ → Row
row i c m = record { rule = get_or rules i no_rule; first = c; at = m }

unfoldable pub rows : List Row
unfolding rules
rows =
    row 0 None 1
    ∷ row 1 None 22
    ∷ row 2 None 32
    ∷ row 3 None 6
    ∷ row 4 None 6
    ∷ row 5 None 6
    ∷ row 6 None 10
    ∷ row 7 None 10
    ∷ row 8 None 140737488356352
    ∷ row 9 None 140737488356352
    ∷ row 10 None 140737488356352
    ∷ row 11 None 2533274790397952
    ∷ row 12 None 2533274790397952
    ∷ row 13 None 2533274790397952
    ∷ row 14 None 256
    ∷ row 15 None 256
    ∷ row 16 None 512
    ∷ row 17 None 10
    ∷ row 18 None 6
    ∷ row 19 None 6
    ∷ row 20 None 6
    ∷ row 21 None 6
    ∷ row 22 None 6
    ∷ row 23 None 6
    ∷ row 24 None 6
    ∷ row 25 (Some 47) 6
    ∷ row 27 None 6
    ∷ row 28 (Some 47) 6
    ∷ row 30 None 6
    ∷ row 31 (Some 47) 6
    ∷ row 33 None 6
    ∷ row 34 (Some 47) 6
    ∷ row 36 (Some 48) 6
    ∷ row 39 (Some 48) 6
    ∷ row 42 None 6
    ∷ row 43 None 6
    ∷ row 44 None 6
    ∷ row 45 None 6
    ∷ row 46 None 64
    ∷ row 47 None 64
    ∷ row 48 None 6
    ∷ row 49 None 128
    ∷ row 50 None 128
    ∷ row 53 None 106496
    ∷ row 54 None 914793675620352
    ∷ row 55 None 1328209907941376
    ∷ row 56 None 1328209907941376
    ∷ row 57 None 1328209907941376
    ∷ row 58 None 1328209907941376
    ∷ row 59 None 1328209907941376
    ∷ row 60 None 1328209907941376
    ∷ row 61 None 1328209907941376
    ∷ row 62 None 1328209907941376
    ∷ row 63 None 1328209907941376
    ∷ row 64 None 4096
    ∷ row 65 None 141836861571072
    ∷ row 66 None 141836861571072
    ∷ row 67 None 141836861571072
    ∷ row 68 None 141836861571072
    ∷ row 69 None 141836861571072
    ∷ row 70 None 141836861571072
    ∷ row 71 None 141836861571072
    ∷ row 72 None 142936373198848
    ∷ row 73 None 142936373198848
    ∷ row 74 None 142936373198848
    ∷ row 75 None 142936373198848
    ∷ row 76 None 140738356576256
    ∷ row 77 None 140737819705344
    ∷ row 78 None 140754529812480
    ∷ row 79 None 140754529812480
    ∷ row 80 None 140754529812480
    ∷ row 81 None 140754529812480
    ∷ row 82 None 140771709681664
    ∷ row 83 None 140771709681664
    ∷ row 84 None 140771709681664
    ∷ row 85 None 140771709681664
    ∷ row 86 None 140806069420032
    ∷ row 87 None 140806069420032
    ∷ row 88 None 140806069420032
    ∷ row 89 None 140874788896768
    ∷ row 90 None 140874788896768
    ∷ row 91 None 141012227850240
    ∷ row 92 None 141012227850240
    ∷ row 93 None 141012227850240
    ∷ row 94 None 140739497426944
    ∷ row 95 None 140741644910592
    ∷ row 96 None 140745939877888
    ∷ row 97 None 140771709681664
    ∷ row 98 None 140771709681664
    ∷ row 99 None 141287105757184
    ∷ row 100 None 140737752596480
    ∷ row 101 (Some 49) 140737500938240
    ∷ row 103 None 140737500938240
    ∷ row 104 None 140737500938240
    ∷ row 105 None 140737500938240
    ∷ row 106 None 140737500938240
    ∷ row 107 None 140737500938240
    ∷ row 108 None 140737500938240
    ∷ row 109 None 140737500938240
    ∷ row 110 None 140737500938240
    ∷ row 111 None 140737500938240
    ∷ row 112 None 140737500938240
    ∷ row 113 None 140737500938240
    ∷ row 114 None 140737500938240
    ∷ row 115 None 140737500938240
    ∷ row 116 None 140737500938240
    ∷ row 117 None 140737500938240
    ∷ row 118 None 140737517715456
    ∷ row 119 (Some 50) 1279831396319232
    ∷ row 121 None 149533442965504
    ∷ row 122 None 1293025535852544
    ∷ row 123 None 21990232555520
    ∷ row 123 (Some 50) 1271035303297024
    ∷ row 124 None 8796093022208
    ∷ row 125 (Some 50) 914793675620352
    ∷ row 127 None 21990232555520
    ∷ row 127 (Some 50) 1271035303297024
    ∷ row 128 None 8796093022208
    ∷ row 129 (Some 50) 914793675620352
    ∷ row 131 None 1328209907941376
    ∷ row 132 None 1328209907941376
    ∷ row 133 None 140737500938240
    ∷ row 134 None 140737500938240
    ∷ row 135 None 1328209907941376
    ∷ row 136 None 914793675620352
    ∷ row 137 None 140737492549632
    ∷ row 51 None 6
    ∷ row 52 None 6
    ∷ row 138 None 114688
    ∷ row 139 None 3166593489567744
    ∷ row 140 None 114688
    ∷ row 141 None 3166593489567744
    ∷ row 142 None 131072
    ∷ row 143 None 2097152
    ∷ row 144 None 65536
    ∷ row 145 None 1048576
    ∷ []

abbrev pub no_row : Row
no_row = record { rule = no_rule; first = None; at = 0 }

-- ---- as the constant table has them

abbrev number_in : List Word → Word → ℕ
number_in [] w = zero
number_in (v ∷ vs) w = elim (same_text v w) [ true ↦ zero | false ↦ suc (number_in vs w) ]

abbrev mode : Grammar.Mode → Mode
mode Grammar.plus = Modes.Plus
mode Grammar.minus = Modes.Minus
mode Grammar.same = Modes.Same

abbrev sort : Grammar.Sort → Sort
sort Grammar.name = Sorts.Name
sort Grammar.variable = Sorts.Variable
sort Grammar.number = Sorts.Number
sort Grammar.string = Sorts.Text

abbrev parameter : Grammar.Parameter → Parameter
parameter Grammar.In = Parameters.In
parameter Grammar.Return = Parameters.Return
parameter Grammar.Else = Parameters.Else

abbrev same_bars : List (List Word) → List (List Word) → Bool
same_bars [] [] = true
same_bars (b ∷ bs) (c ∷ cs) = same_list b c && same_bars bs cs
  where
    same_list : List Word → List Word → Bool
    same_list [] [] = true
    same_list (v ∷ vs) (w ∷ ws) = same_text v w && same_list vs ws
    same_list vs ws = false
same_bars bs cs = false

abbrev pub bars : List (List Word) → Bars
bars bs =
    pick (same_bars bs []) Barred.Nothing
    (pick (same_bars bs statement_start) Barred.Statement
    (pick (same_bars bs let_bracket) Barred.LetBracket
    (pick (same_bars bs of_start) Barred.Of Barred.Body)))

abbrev pub place_of : Option ℕ → Slot → ℕ
place_of (Some c) x = c
place_of None x = code x.symbol

abbrev kids : Option ℕ → Slot → Style → Part
kids c x s = Parts.Kids (record { place = place_of c x; has_in = mode x.in_mode; has_return = mode x.return_mode; has_else = mode x.else_mode; style = s })

-- the parts of a right side of which the first child stands at the place c, if it is a set, and the ends that fill the row up to m parts
abbrev pub parts : ℕ → Option ℕ → List Grammar.Part → List Part
parts zero c ps = []
parts (suc m) c [] = Parts.End ∷ parts m c []
parts (suc m) c (Grammar.word w ∷ ps) = Parts.Word (number_in words w) ∷ parts m c ps
parts (suc m) c (Grammar.own s ∷ ps) = Parts.Own (sort s) ∷ parts m c ps
parts (suc m) c (Grammar.kid x ∷ ps) = kids c x Styles.One ∷ parts m None ps
parts (suc m) c (Grammar.run x ∷ ps) = kids c x Styles.Run ∷ parts m None ps
parts (suc m) c (Grammar.commas x ∷ ps) = kids c x Styles.Commas ∷ parts m None ps
parts (suc m) c (Grammar.more x ∷ ps) = kids c x Styles.More ∷ parts m None ps
parts (suc m) c (Grammar.look bs ∷ ps) = Parts.Look (bars bs) ∷ parts m c ps
parts (suc m) c (Grammar.if_has p ∷ ps) = Parts.Has (parameter p) ∷ parts m c ps
parts (suc m) c (Grammar.if_not p ∷ ps) = Parts.HasNot (parameter p) ∷ parts m c ps
parts (suc m) c (Grammar.one_default ∷ ps) = Parts.OneDefault ∷ parts m c ps

-- the parameter that a right side asks for, or asks not to be there; none asks for two
abbrev pub guard_of : List Grammar.Part → Guard
guard_of [] = Guards.Always
guard_of (Grammar.word w ∷ ps) = guard_of ps
guard_of (Grammar.own s ∷ ps) = guard_of ps
guard_of (Grammar.kid x ∷ ps) = guard_of ps
guard_of (Grammar.run x ∷ ps) = guard_of ps
guard_of (Grammar.commas x ∷ ps) = guard_of ps
guard_of (Grammar.more x ∷ ps) = guard_of ps
guard_of (Grammar.look bs ∷ ps) = guard_of ps
guard_of (Grammar.if_has Grammar.In ∷ ps) = Guards.In
guard_of (Grammar.if_has Grammar.Return ∷ ps) = Guards.Return
guard_of (Grammar.if_has Grammar.Else ∷ ps) = guard_of ps
guard_of (Grammar.if_not p ∷ ps) = Guards.NotElse
guard_of (Grammar.one_default ∷ ps) = guard_of ps

abbrev pub entry : Row → Entry
entry r = record { kind = r.rule.kind; form = r.rule.form; singles = singles r.rule.right; has_list = has_list r.rule.right; at = r.at; guard = guard_of r.rule.right }

unfoldable pub parts_of : Row → List Part
unfolding words
parts_of r = parts 11 r.first r.rule.right

abbrev pub all_parts : List Row → List Part
all_parts [] = []
all_parts (r ∷ rs) = parts_of r ++ all_parts rs

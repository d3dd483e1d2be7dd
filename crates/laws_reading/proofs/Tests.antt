-- What is asked of the rows, and computed: which tokens may follow an expression, and that two rows are told apart by their tokens. Assumes nothing.
use mathlib.Core.Bool.{Bool, true, false, ◌&&◌, ◌||◌, not}
use mathlib.Core.List.{List, [], ◌∷◌, ◌++◌}
use Prim.Native.Nat.{ℕ, zero, suc}
use lib.Dec.{T, eqb, leb}
use Rattle.std.specs.Prelude.{codes}
use Rattle.def_file.specs.Script.{same_text}
use Rattle.def_file.specs.Kinds.{uses_text}
use Rattle.def_file.specs.Named.{is_kind}
use Rattle.def_file.specs.declared.kind.Kind.TheVariants as Kinds
use Rattle.def_text.specs.Words.{Word, some, every, among, between, is_variable}
use Rattle.def_text.specs.Grammar.{Symbol, Slot, Sort, name, variable, number, string, Part, word, own, kid, run, commas, more, look, if_has, if_not, one_default, Rule, Mode, plus, minus, same, In, Return, Else}
use Rattle.def_text.specs.Table.{code, reaches, rules}
use Rattle.def_text.specs.Derives.{barred, sort_ok}
use Rattle.laws_text.proofs.Fit.{slots}
use Rattle.laws_reading.specs.Claims.{is_plain}

-- where one of two things is read, by what is asked for: an expression, what stands in an object, a parameter, what stands in a pattern that is assigned to,
-- what stands in an object pattern of either sort, a target in a pair, a block, a body, a `catch`, what is declared, and a statement
abbrev pub zones : List ℕ
zones = 0 ∷ 1 ∷ 2 ∷ 3 ∷ 4 ∷ 5 ∷ 6 ∷ 7 ∷ 8 ∷ 9 ∷ 10 ∷ 11 ∷ []

-- is it asked for there
unfoldable pub rooted : ℕ → Symbol → Bool
rooted c x =
    elim (eqb c 0) [
      | true ↦ between 22 45 (code x)
      | false ↦
          elim (eqb c 2) [
            | true ↦ between 13 16 (code x)
            | false ↦
                elim (eqb c 3) [
                  | true ↦ eqb (code x) 20 || eqb (code x) 46
                  | false ↦
                      elim (eqb c 6) [
                        | true ↦ eqb (code x) 18
                        | false ↦
                            elim (eqb c 1) [
                              | true ↦ eqb (code x) 12
                              | false ↦
                                  elim (eqb c 4) [
                                    | true ↦ eqb (code x) 21
                                    | false ↦
                                        elim (eqb c 5) [
                                          | true ↦ eqb (code x) 17
                                          | false ↦
                                              elim (eqb c 7) [
                                                | true ↦ eqb (code x) 4
                                                | false ↦
                                                    elim (eqb c 8) [
                                                      | true ↦ eqb (code x) 5
                                                      | false ↦
                                                          elim (eqb c 9) [
                                                            | true ↦ eqb (code x) 6
                                                            | false ↦
                                                                elim (eqb c 10) [
                                                                  | true ↦ eqb (code x) 8
                                                                  | false ↦
                                                                      between 1 2 (code x)
                                                                ]
                                                          ]
                                                    ]
                                              ]
                                        ]
                                  ]
                            ]
                      ]
                ]
          ]
    ]

-- does it stand first in what is asked for there
unfoldable pub within : ℕ → Symbol → Bool
within c x =
    elim (eqb c 0) [
      | true ↦ between 22 45 (code x) || between 18 19 (code x)
      | false ↦
          elim (eqb c 2) [
            | true ↦ between 13 16 (code x)
            | false ↦
                elim (eqb c 3) [
                  | true ↦ eqb (code x) 20 || eqb (code x) 46 || between 18 19 (code x) || between 43 45 (code x)
                  | false ↦
                      elim (eqb c 6) [
                        | true ↦ eqb (code x) 18 || between 43 45 (code x)
                        | false ↦
                            elim (eqb c 1) [
                              | true ↦ eqb (code x) 12
                              | false ↦
                                  elim (eqb c 4) [
                                    | true ↦ eqb (code x) 21
                                    | false ↦
                                        elim (eqb c 5) [
                                          | true ↦ eqb (code x) 17
                                          | false ↦
                                              elim (eqb c 7) [
                                                | true ↦ eqb (code x) 4
                                                | false ↦
                                                    elim (eqb c 8) [
                                                      | true ↦ eqb (code x) 5
                                                      | false ↦
                                                          elim (eqb c 9) [
                                                            | true ↦ eqb (code x) 6
                                                            | false ↦
                                                                elim (eqb c 10) [
                                                                  | true ↦ eqb (code x) 8
                                                                  | false ↦
                                                                      between 1 4 (code x)
                                                                ]
                                                          ]
                                                    ]
                                              ]
                                        ]
                                  ]
                            ]
                      ]
                ]
          ]
    ]

-- may it be all of what is asked for there
unfoldable pub whole : ℕ → Symbol → Bool
whole c x =
    elim (eqb c 0) [
      | true ↦ between 22 45 (code x)
      | false ↦
          elim (eqb c 2) [
            | true ↦ between 13 16 (code x)
            | false ↦
                elim (eqb c 3) [
                  | true ↦ eqb (code x) 20 || eqb (code x) 46 || between 18 19 (code x)
                  | false ↦
                      elim (eqb c 6) [
                        | true ↦ eqb (code x) 18
                        | false ↦
                            elim (eqb c 1) [
                              | true ↦ eqb (code x) 12
                              | false ↦
                                  elim (eqb c 4) [
                                    | true ↦ eqb (code x) 21
                                    | false ↦
                                        elim (eqb c 5) [
                                          | true ↦ eqb (code x) 17
                                          | false ↦
                                              elim (eqb c 7) [
                                                | true ↦ eqb (code x) 4
                                                | false ↦
                                                    elim (eqb c 8) [
                                                      | true ↦ eqb (code x) 5
                                                      | false ↦
                                                          elim (eqb c 9) [
                                                            | true ↦ eqb (code x) 6
                                                            | false ↦
                                                                elim (eqb c 10) [
                                                                  | true ↦ eqb (code x) 8
                                                                  | false ↦
                                                                      between 1 4 (code x)
                                                                ]
                                                          ]
                                                    ]
                                              ]
                                        ]
                                  ]
                            ]
                      ]
                ]
          ]
    ]

-- the tokens by which what is read goes on, by the levels of expressions
abbrev member : List Word
member = codes "." ∷ codes "[" ∷ []

abbrev call : List Word
call = codes "(" ∷ member

abbrev update : List Word
update = codes "++" ∷ codes "--" ∷ call

abbrev power : List Word
power = codes "**" ∷ update

abbrev times : List Word
times = codes "*" ∷ codes "/" ∷ codes "%" ∷ power

abbrev plus_level : List Word
plus_level = codes "+" ∷ codes "-" ∷ times

abbrev shift : List Word
shift = codes "<<" ∷ codes ">>" ∷ codes ">>>" ∷ plus_level

abbrev relation : List Word
relation = codes "<" ∷ codes "<=" ∷ codes ">" ∷ codes ">=" ∷ codes "in" ∷ codes "instanceof" ∷ shift

abbrev equality : List Word
equality = codes "==" ∷ codes "!=" ∷ codes "===" ∷ codes "!==" ∷ relation

abbrev bit_and : List Word
bit_and = codes "&" ∷ equality

abbrev bit_xor : List Word
bit_xor = codes "^" ∷ bit_and

abbrev bit_or : List Word
bit_or = codes "|" ∷ bit_xor

abbrev logical : List Word
logical = codes "&&" ∷ bit_or

abbrev logical_or : List Word
logical_or = codes "||" ∷ logical

abbrev condition : List Word
condition = codes "?" ∷ codes "??" ∷ logical_or

abbrev assignment : List Word
assignment =
    codes "=" ∷ codes "+=" ∷ codes "-=" ∷ codes "*=" ∷ codes "/=" ∷ codes "%=" ∷ codes "<<=" ∷ codes ">>=" ∷ codes ">>>=" ∷ codes "|=" ∷ codes "^=" ∷ codes "&=" ∷ codes "**=" ∷ codes "&&=" ∷ codes "||=" ∷ codes "??="
    ∷ codes "=>" ∷ condition

abbrev at_level : ℕ → List Word
at_level c =
    elim (leb c 17) [
      | true ↦ codes "=" ∷ []
      | false ↦
          elim (eqb c 18) [
            | true ↦ call
            | false ↦
                elim (eqb c 19) [
                  | true ↦ []
                  | false ↦
                      elim (eqb c 20) [
                        | true ↦ codes "=" ∷ call
                        | false ↦
                            elim (eqb c 21) [
                              | true ↦ []
                              | false ↦
                                  elim (eqb c 46) [
                                    | true ↦ call
                                    | false ↦
                                        elim (eqb c 22) [
                                          | true ↦ codes "," ∷ assignment
                                          | false ↦
                                              elim (leb c 24) [
                                                | true ↦ assignment
                                                | false ↦
                                                    elim (leb c 25) [
                                                      | true ↦ condition
                                                      | false ↦
                                                          elim (leb c 27) [
                                                            | true ↦ codes "??" ∷ bit_or
                                                            | false ↦
                                                                elim (eqb c 28) [
                                                                  | true ↦ logical_or
                                                                  | false ↦
                                                                      elim (eqb c 29) [
                                                                        | true ↦ logical
                                                                        | false ↦
                                                                            elim (eqb c 30) [
                                                                              | true ↦ bit_or
                                                                              | false ↦
                                                                                  elim (eqb c 31) [
                                                                                    | true ↦ bit_xor
                                                                                    | false ↦
                                                                                        elim (eqb c 32) [
                                                                                          | true ↦ bit_and
                                                                                          | false ↦
                                                                                              elim (eqb c 33) [
                                                                                                | true ↦ equality
                                                                                                | false ↦
                                                                                                    elim (eqb c 34) [
                                                                                                      | true ↦ relation
                                                                                                      | false ↦
                                                                                                          elim (eqb c 35) [
                                                                                                            | true ↦ shift
                                                                                                            | false ↦
                                                                                                                elim (eqb c 36) [
                                                                                                                  | true ↦ plus_level
                                                                                                                  | false ↦
                                                                                                                      elim (eqb c 37) [
                                                                                                                        | true ↦ times
                                                                                                                        | false ↦
                                                                                                                            elim (eqb c 38) [
                                                                                                                              | true ↦ power
                                                                                                                              | false ↦
                                                                                                                                  elim (leb c 40) [
                                                                                                                                    | true ↦ update
                                                                                                                                    | false ↦
                                                                                                                                        elim (eqb c 41) [
                                                                                                                                          | true ↦ call
                                                                                                                                          | false ↦
                                                                                                                                              elim (eqb c 42) [
                                                                                                                                                | true ↦ member
                                                                                                                                                | false ↦
                                                                                                                                                    elim (eqb c 43) [
                                                                                                                                                      | true ↦ call
                                                                                                                                                      | false ↦
                                                                                                                                                          elim (eqb c 44) [ true ↦ member | false ↦ [] ]
                                                                                                                                                    ]
                                                                                                                                              ]
                                                                                                                                        ]
                                                                                                                                  ]
                                                                                                                            ]
                                                                                                                      ]
                                                                                                                ]
                                                                                                          ]
                                                                                                    ]
                                                                                              ]
                                                                                        ]
                                                                                  ]
                                                                            ]
                                                                      ]
                                                                ]
                                                          ]
                                                    ]
                                              ]
                                        ]
                                  ]
                            ]
                      ]
                ]
          ]
    ]

-- the operators that go on with what is read at a symbol, and the tokens that may not follow it
unfoldable pub ops : Symbol → List Word
ops x = elim (leb (code x) 15 || eqb (code x) 17) [ true ↦ [] | false ↦ at_level (code x) ]

unfoldable pub shut : Symbol → List Word
unfolding ops
shut x =
    elim (between 1 2 (code x)) [
      | true ↦ codes "finally" ∷ []
      | false ↦
          elim (eqb (code x) 12) [
            | true ↦ assignment
            | false ↦
                elim (eqb (code x) 13) [
                  | true ↦ codes "=" ∷ []
                  | false ↦
                      elim (eqb (code x) 8 || between 16 17 (code x) || between 20 21 (code x)) [
                        | true ↦ codes "(" ∷ assignment
                        | false ↦
                            elim (eqb (code x) 42) [ true ↦ call | false ↦ ops x ]
                      ]
                ]
          ]
    ]

-- a statement, which may end in an `if` without else
unfoldable pub open_ended : Symbol → Bool
open_ended x = between 1 2 (code x)

abbrev pub covers : List Word → List Word → Bool
covers vs ws = every (λ w. among w vs) ws

abbrev pub sort_class : Sort → ℕ
sort_class name = 0
sort_class variable = 0
sort_class number = 1
sort_class string = 2

-- closing brackets, which begin nothing
abbrev pub closers : List Word
closers = codes ")" ∷ codes "]" ∷ codes "}" ∷ []

-- a right side without the parameters that it asks for
abbrev pub stripped : List Part → List Part
stripped [] = []
stripped (word w ∷ ps) = word w ∷ stripped ps
stripped (own s ∷ ps) = own s ∷ stripped ps
stripped (kid x ∷ ps) = kid x ∷ stripped ps
stripped (run x ∷ ps) = run x ∷ stripped ps
stripped (commas x ∷ ps) = commas x ∷ stripped ps
stripped (more x ∷ ps) = more x ∷ stripped ps
stripped (look bs ∷ ps) = look bs ∷ stripped ps
stripped (if_has p ∷ ps) = stripped ps
stripped (if_not p ∷ ps) = stripped ps
stripped (one_default ∷ ps) = stripped ps

-- what is declared is read by its first child; nothing is barred there
abbrev pub front : Rule → List Part
front r = elim (is_kind Kinds.VarDeclarator r.kind) [ true ↦ look [] ∷ stripped r.right | false ↦ stripped r.right ]

-- an `if` without else
abbrev pub dangles : List Part → Bool
dangles [] = false
dangles (word w ∷ ps) = dangles ps
dangles (own s ∷ ps) = dangles ps
dangles (kid x ∷ ps) = dangles ps
dangles (run x ∷ ps) = dangles ps
dangles (commas x ∷ ps) = dangles ps
dangles (more x ∷ ps) = dangles ps
dangles (look bs ∷ ps) = dangles ps
dangles (if_has p ∷ ps) = dangles ps
dangles (if_not In ∷ ps) = dangles ps
dangles (if_not Return ∷ ps) = dangles ps
dangles (if_not Else ∷ ps) = true
dangles (one_default ∷ ps) = dangles ps

-- what may not follow a right side
abbrev pub last : List Part → List Word
last [] = []
last (word w ∷ ps) = last ps
last (own s ∷ ps) = last ps
last (kid x ∷ []) = shut x.symbol
last (kid x ∷ p ∷ ps) = last (p ∷ ps)
last (run x ∷ ps) = last ps
last (commas x ∷ ps) = last ps
last (more x ∷ []) = codes "," ∷ shut x.symbol
last (more x ∷ p ∷ ps) = last (p ∷ ps)
last (look bs ∷ ps) = last ps
last (if_has p ∷ ps) = last ps
last (if_not p ∷ ps) = last ps
last (one_default ∷ ps) = last ps

abbrev pub is_plus : Mode → Bool
is_plus plus = true
is_plus minus = false
is_plus same = false

abbrev pub is_same : Mode → Bool
is_same plus = false
is_same minus = false
is_same same = true

abbrev pub none : List Part → Bool
none [] = true
none (p ∷ ps) = false

abbrev pub nothing : List Word → Bool
nothing [] = true
nothing (w ∷ ws) = false

-- what is behind a list with commas before each shuts a child before it
abbrev pub more_end : Slot → Slot → List Part → Bool
more_end x y [] = covers (shut y.symbol) (shut x.symbol)
more_end x y (word w ∷ ps) = not (among w (shut x.symbol))
more_end x y ps = false

-- what follows a child shuts it
abbrev pub after : Slot → List Part → Bool
after x [] = is_same x.else_mode || not (open_ended x.symbol)
after x (word w ∷ ps) = not (among w (shut x.symbol)) && (is_plus x.else_mode || not (open_ended x.symbol) || not (same_text w (codes "else")))
after x (own s ∷ ps) = false
after x (kid y ∷ ps) = nothing (shut x.symbol) && not (open_ended x.symbol)
after x (run y ∷ ps) = false
after x (commas y ∷ ps) = false
after x (more y ∷ ps) = not (open_ended x.symbol) && not (among (codes ",") (shut x.symbol)) && more_end x y ps
after x (look bs ∷ ps) = false
after x (if_has p ∷ ps) = false
after x (if_not p ∷ ps) = false
after x (one_default ∷ ps) = false

-- a list with commas is closed
abbrev pub closed : Slot → List Part → Bool
closed x [] = false
closed x (word c ∷ ps) = among c closers && not (among c (shut x.symbol)) && not (among (codes ",") (shut x.symbol)) && not (open_ended x.symbol)
closed x (own s ∷ ps) = false
closed x (kid y ∷ ps) = false
closed x (run y ∷ ps) = false
closed x (commas y ∷ ps) = false
closed x (more y ∷ ps) = false
closed x (look bs ∷ ps) = false
closed x (if_has p ∷ ps) = false
closed x (if_not p ∷ ps) = false
closed x (one_default ∷ ps) = false

-- both are asked for in one zone
abbrev pub both_in : Symbol → Symbol → ℕ → Bool
both_in x y c = rooted c x && within c x && rooted c y && within c y

abbrev pub meet : Symbol → Symbol → Bool
meet x y = some (both_in x y) zones

abbrev pub used : Rule → Bool
used r = elim (is_plain r.kind r.form) [ true ↦ some (λ c. within c r.left) zones | false ↦ false ]

-- of the rows in a zone none begins with a token
abbrev pub begins_not : ℕ → (Slot → Bool) → Word → List Part → Bool
begins_not c q w [] = false
begins_not c q w (word v ∷ ps) = not (same_text w v)
begins_not c q w (own s ∷ ps) = not (sort_ok s w)
begins_not c q w (kid x ∷ ps) = true
begins_not c q w (look bs ∷ kid y ∷ ps) = q y
begins_not c q w ps = false

abbrev pub none_begins : (Slot → Bool) → Word → ℕ → Bool
none_begins q w c = every (λ r. elim (used r) [ true ↦ elim (within c r.left) [ true ↦ begins_not c q w (front r) | false ↦ true ] | false ↦ true ]) rules

abbrev pub in_zone : (ℕ → Bool) → Symbol → Bool
in_zone p x = some (λ c. within c x && p c) zones

abbrev pub inner_not : Word → Slot → Bool
inner_not w y = in_zone (none_begins (λ z. false) w) y.symbol

abbrev pub first_not : Symbol → Word → Bool
first_not x w = in_zone (none_begins (inner_not w) w) x

-- each row begins with a token that is barred
abbrev pub barred_start : List (List Word) → List Part → Bool
barred_start bs [] = false
barred_start bs (word v ∷ ps) = barred bs (v ∷ [])
barred_start bs ps = false

abbrev pub all_barred : List (List Word) → ℕ → Bool
all_barred bs c = every (λ r. elim (used r) [ true ↦ elim (within c r.left) [ true ↦ barred_start bs (front r) | false ↦ true ] | false ↦ true ]) rules

-- the same of what a lookahead stands before
abbrev pub looked : Word → List (List Word) → List Part → Bool
looked w bs (kid y ∷ ps) = barred bs (w ∷ []) || first_not y.symbol w
looked w bs ps = false

-- a name or a brace, which stands behind no name in an expression
abbrev pub bad : Word → Bool
bad t = is_variable t || same_text t (codes "{")

abbrev pub is_variable_sort : Sort → Bool
is_variable_sort name = false
is_variable_sort variable = true
is_variable_sort number = false
is_variable_sort string = false

-- each row begins with one, or with what is barred behind w
abbrev pub starts_bad : (Slot → Bool) → Word → List (List Word) → List Part → Bool
starts_bad q w bs [] = false
starts_bad q w bs (word v ∷ ps) = bad v || barred bs (w ∷ v ∷ [])
starts_bad q w bs (own s ∷ ps) = is_variable_sort s
starts_bad q w bs (kid x ∷ ps) = true
starts_bad q w bs (look cs ∷ kid y ∷ ps) = q y
starts_bad q w bs ps = false

abbrev pub all_bad : (Slot → Bool) → Word → List (List Word) → ℕ → Bool
all_bad q w bs c = every (λ r. elim (used r) [ true ↦ elim (within c r.left) [ true ↦ starts_bad q w bs (front r) | false ↦ true ] | false ↦ true ]) rules

abbrev pub inner_bad : Word → List (List Word) → Slot → Bool
inner_bad w bs y = in_zone (all_bad (λ z. false) w bs) y.symbol

abbrev pub first_bad : Word → List (List Word) → Symbol → Bool
first_bad w bs x = in_zone (all_bad (inner_bad w bs) w bs) x

-- and none goes on so behind w alone
abbrev pub single : Word → List Part → Bool
single w (word v ∷ ps) = not (same_text w v)
single w (own s ∷ []) = true
single w (kid y ∷ word d ∷ ps) = not (bad d)
single w ps = false

abbrev pub all_single : Word → ℕ → Bool
all_single w c = every (λ r. elim (used r) [ true ↦ elim (within c r.left) [ true ↦ single w (front r) | false ↦ true ] | false ↦ true ]) rules

abbrev pub looked_second : Word → List (List Word) → List Part → List Part → Bool
looked_second w bs (kid p ∷ ps) (kid y ∷ word c ∷ qs) = not (bad c) && first_bad w bs p.symbol && in_zone (all_single w) y.symbol
looked_second w bs ps qs = false

-- children one after the other, closed
abbrev pub run_end : Slot → List Part → Bool
run_end x (word c ∷ ps) = among c closers && not (among c (shut x.symbol)) && not (same_text c (codes "else")) && first_not x.symbol (codes "else") && every (first_not x.symbol) (shut x.symbol)
run_end x ps = false

-- children with a comma before each, at the end or before a token
abbrev pub more_shut : Slot → List Part → Bool
more_shut x [] = not (among (codes ",") (shut x.symbol)) && not (open_ended x.symbol)
more_shut x (word c ∷ ps) = not (among c (shut x.symbol)) && not (same_text c (codes ",")) && not (among (codes ",") (shut x.symbol)) && not (open_ended x.symbol)
more_shut x ps = false

-- neither ends in an `if` without else
abbrev pub meet_closed : Symbol → Symbol → Bool
meet_closed x y = meet x y && not (open_ended x) && not (open_ended y)

-- a child that is the last one, beside one that a token follows
abbrev pub longer : Slot → List Part → Slot → List Part → Bool
longer x [] y (word w ∷ qs) = among w (shut x.symbol) && not (among w (ops x.symbol)) && not (among w (shut y.symbol)) && covers (shut x.symbol) (ops y.symbol) && meet_closed x.symbol y.symbol
longer x ps y qs = false

abbrev pub like : Slot → Slot → Bool
like x y = meet x.symbol y.symbol && covers (shut x.symbol) (ops y.symbol) && covers (shut y.symbol) (ops x.symbol)

-- a row that begins with a child, and what it has behind it
abbrev pub is_tail : List Part → Bool
is_tail [] = false
is_tail (word w ∷ ps) = false
is_tail (own s ∷ ps) = false
is_tail (kid x ∷ ps) = true
is_tail (run x ∷ ps) = false
is_tail (commas x ∷ ps) = false
is_tail (more x ∷ ps) = false
is_tail (look bs ∷ ps) = false
is_tail (if_has p ∷ ps) = false
is_tail (if_not p ∷ ps) = false
is_tail (one_default ∷ ps) = false

abbrev pub behind : List Part → List Part
behind [] = []
behind (p ∷ ps) = ps

-- two right sides have the same tokens only if they are one, which e says; l and m are what may not follow them
abbrev pub near : Bool → List Word → List Word → List Part → List Part → Bool
near e l m [] [] = e
near e l m [] (word w ∷ qs) = among w l
near e l m (word w ∷ ps) [] = among w m
near e l m (word w ∷ ps) (word v ∷ qs) = elim (same_text w v) [ true ↦ near e l m ps qs | false ↦ true ]
near e l m (word w ∷ ps) (own s ∷ qs) = not (sort_ok s w)
near e l m (own s ∷ ps) (word w ∷ qs) = not (sort_ok s w)
near e l m (own s ∷ ps) (own t ∷ qs) = elim (eqb (sort_class s) (sort_class t)) [ true ↦ near e l m ps qs | false ↦ true ]
near e l m (word w ∷ ps) (kid y ∷ qs) = first_not y.symbol w
near e l m (kid x ∷ ps) (word w ∷ qs) = first_not x.symbol w
near e l m (word w ∷ ps) (look bs ∷ qs) = elim (looked w bs qs) [ true ↦ true | false ↦ looked_second w bs ps qs ]
near e l m (look bs ∷ ps) (word w ∷ qs) = elim (looked w bs ps) [ true ↦ true | false ↦ looked_second w bs qs ps ]
near e l m (kid x ∷ ps) (look bs ∷ qs) = in_zone (all_barred bs) x.symbol && is_tail qs
near e l m (look bs ∷ ps) (kid y ∷ qs) = in_zone (all_barred bs) y.symbol && is_tail ps
near e l m (kid x ∷ ps) (kid y ∷ qs) = elim (eqb (code x.symbol) (code y.symbol)) [ true ↦ like x y && after x ps && after y qs && near e l m ps qs | false ↦ longer x ps y qs || longer y qs x ps ]
near e l m (run x ∷ ps) (run y ∷ qs) = like x y && run_end x ps && run_end y qs && near e l m ps qs
near e l m (commas x ∷ ps) (commas y ∷ qs) = like x y && closed x ps && closed y qs && near e l m ps qs
near e l m (look cs ∷ ps) (look bs ∷ qs) = near e l m ps qs
near e l m (more x ∷ ps) (more y ∷ qs) = like x y && more_shut x ps && more_shut y qs && near e l m ps qs
near e l m ps qs = false

-- a first child and the token behind it suit a test
abbrev pub tail_ok : (Slot → Word → Bool) → List Part → Bool
tail_ok q [] = false
tail_ok q (word w ∷ ps) = not (among w closers)
tail_ok q (own s ∷ ps) = true
tail_ok q (kid x ∷ []) = false
tail_ok q (kid x ∷ word o ∷ ps) = q x o
tail_ok q (kid x ∷ own s ∷ ps) = false
tail_ok q (kid x ∷ kid y ∷ ps) = false
tail_ok q (kid x ∷ run y ∷ ps) = false
tail_ok q (kid x ∷ commas y ∷ ps) = false
tail_ok q (kid x ∷ more y ∷ ps) = false
tail_ok q (kid x ∷ look bs ∷ ps) = false
tail_ok q (kid x ∷ if_has p ∷ ps) = false
tail_ok q (kid x ∷ if_not p ∷ ps) = false
tail_ok q (kid x ∷ one_default ∷ ps) = false
tail_ok q (run x ∷ ps) = false
tail_ok q (commas x ∷ ps) = false
tail_ok q (more x ∷ ps) = false
tail_ok q (look bs ∷ []) = false
tail_ok q (look bs ∷ word w ∷ ps) = false
tail_ok q (look bs ∷ own s ∷ ps) = false
tail_ok q (look bs ∷ kid x ∷ ps) = true
tail_ok q (look bs ∷ run x ∷ ps) = false
tail_ok q (look bs ∷ commas x ∷ ps) = false
tail_ok q (look bs ∷ more x ∷ ps) = false
tail_ok q (look bs ∷ look cs ∷ ps) = false
tail_ok q (look bs ∷ if_has p ∷ ps) = false
tail_ok q (look bs ∷ if_not p ∷ ps) = false
tail_ok q (look bs ∷ one_default ∷ ps) = false
tail_ok q (if_has p ∷ ps) = false
tail_ok q (if_not p ∷ ps) = false
tail_ok q (one_default ∷ ps) = false

-- ---- brackets

abbrev pub openers : List Word
openers = codes "(" ∷ codes "[" ∷ codes "{" ∷ []

-- what a right side has behind the bracket that closes the one before it, e more being open
abbrev pub unclosed : ℕ → List Part → List Part
unclosed e [] = []
unclosed zero (word w ∷ ps) = elim (among w openers) [ true ↦ unclosed 1 ps | false ↦ elim (among w closers) [ true ↦ ps | false ↦ unclosed zero ps ] ]
unclosed (suc e) (word w ∷ ps) = elim (among w openers) [ true ↦ unclosed (suc (suc e)) ps | false ↦ elim (among w closers) [ true ↦ unclosed e ps | false ↦ unclosed (suc e) ps ] ]
unclosed e (own s ∷ ps) = unclosed e ps
unclosed e (kid x ∷ ps) = unclosed e ps
unclosed e (run x ∷ ps) = unclosed e ps
unclosed e (commas x ∷ ps) = unclosed e ps
unclosed e (more x ∷ ps) = unclosed e ps
unclosed e (look bs ∷ ps) = unclosed e ps
unclosed e (if_has p ∷ ps) = unclosed e ps
unclosed e (if_not p ∷ ps) = unclosed e ps
unclosed e (one_default ∷ ps) = unclosed e ps

-- it closes what it opens, and what is open before it
abbrev pub bal : ℕ → List Part → Bool
bal zero [] = true
bal (suc e) [] = false
bal zero (word w ∷ ps) = elim (among w openers) [ true ↦ bal 1 ps | false ↦ elim (among w closers) [ true ↦ false | false ↦ bal zero ps ] ]
bal (suc e) (word w ∷ ps) = elim (among w openers) [ true ↦ bal (suc (suc e)) ps | false ↦ elim (among w closers) [ true ↦ bal e ps | false ↦ bal (suc e) ps ] ]
bal e (own s ∷ ps) = bal e ps
bal e (kid x ∷ ps) = bal e ps
bal e (run x ∷ ps) = bal e ps
bal e (commas x ∷ ps) = bal e ps
bal e (more x ∷ ps) = bal e ps
bal e (look bs ∷ ps) = bal e ps
bal e (if_has p ∷ ps) = bal e ps
bal e (if_not p ∷ ps) = bal e ps
bal e (one_default ∷ ps) = bal e ps

-- a right side behind its own token, or behind the bracket that closes its first one; other ones are as they are
abbrev pub skip : List Part → List Part
skip [] = []
skip (word w ∷ ps) = elim (among w openers) [ true ↦ unclosed zero ps | false ↦ word w ∷ ps ]
skip (own s ∷ ps) = ps
skip (kid x ∷ ps) = kid x ∷ ps
skip (run x ∷ ps) = run x ∷ ps
skip (commas x ∷ ps) = commas x ∷ ps
skip (more x ∷ ps) = more x ∷ ps
skip (look bs ∷ ps) = look bs ∷ ps
skip (if_has p ∷ ps) = if_has p ∷ ps
skip (if_not p ∷ ps) = if_not p ∷ ps
skip (one_default ∷ ps) = one_default ∷ ps

-- both begin with their own tokens, or both with brackets that they close
abbrev pub paired_starts : List Part → List Part → Bool
paired_starts (word v ∷ ps) (word w ∷ qs) = among v openers && among w openers && bal 1 ps && bal 1 qs
paired_starts (own s ∷ ps) (own t ∷ qs) = none ps && none qs
paired_starts ps qs = false

abbrev pub is_plain_row : Rule → Bool
is_plain_row r = is_plain r.kind r.form

-- the tokens that go on with a left side in a zone
abbrev pub goes : ℕ → Symbol → List Part → List Word
goes c s [] = []
goes c s (word w ∷ ps) = []
goes c s (own t ∷ ps) = []
goes c s (kid x ∷ []) = []
goes c s (kid x ∷ word w ∷ ps) = elim (reaches x.symbol s) [ true ↦ w ∷ [] | false ↦ [] ]
goes c s (kid x ∷ ps) = []
goes c s ps = []

abbrev pub nexts_of : ℕ → Symbol → List Rule → List Word
nexts_of c s [] = []
nexts_of c s (r ∷ rs) = elim (used r) [ true ↦ elim (within c r.left) [ true ↦ goes c s (front r) ++ nexts_of c s rs | false ↦ nexts_of c s rs ] | false ↦ nexts_of c s rs ]

abbrev pub nexts : ℕ → Symbol → List Word
nexts c s = nexts_of c s rules

abbrev pub apart : List Word → List Word → Bool
apart vs ws = every (λ w. not (among w vs)) ws

-- what is behind them tells them apart
abbrev pub told : ℕ → Symbol → List Part → Symbol → List Part → Bool
told c a [] b [] = apart (nexts c a) (nexts c b) && not (whole c a && whole c b)
told c a [] b (word w ∷ qs) = not (among w (nexts c a))
told c a (word w ∷ ps) b [] = not (among w (nexts c b))
told c a ps b qs = false

abbrev pub clash : ℕ → Symbol → List Part → Symbol → List Part → Bool
clash c a ps b qs = paired_starts ps qs && told c a (skip ps) b (skip qs)

-- what is behind a start in brackets is barred behind all of it
abbrev pub behind_ok : Symbol → List Part → Bool
behind_ok x [] = true
behind_ok x (word w ∷ ps) = among w (ops x)
behind_ok x ps = true

abbrev pub skip_ok : Symbol → List Part → Bool
skip_ok x ps = elim (is_tail ps) [ true ↦ true | false ↦ elim (paired_starts ps ps) [ true ↦ behind_ok x (skip ps) | false ↦ true ] ]

-- what may not follow a row
abbrev pub ended_by : Rule → List Word
ended_by r = elim (is_kind Kinds.Try r.kind && eqb r.form 1) [ true ↦ codes "finally" ∷ [] | false ↦ [] ] ++ last (front r)

abbrev pub with_else : Rule → List Word
with_else r = elim (dangles r.right) [ true ↦ codes "else" ∷ ended_by r | false ↦ ended_by r ]

-- a statement at the end
abbrev pub ends_open : List Part → Bool
ends_open [] = false
ends_open (kid x ∷ []) = open_ended x.symbol
ends_open (p ∷ ps) = ends_open ps

-- ---- of the rows that a symbol reaches

abbrev pub keeps : Symbol → Symbol → Bool
keeps x y = every (λ c. elim (within c x) [ true ↦ within c y | false ↦ true ]) zones

abbrev pub ends : Symbol → Symbol → Bool
ends x y = every (λ c. elim (rooted c x) [ true ↦ whole c y | false ↦ true ]) zones

abbrev pub goes_on : Symbol → Slot → Word → Bool
goes_on x y o = among o (ops x) && covers (ops x) (ops y.symbol) && keeps x y.symbol

abbrev pub row_at : Symbol → Rule → Bool
row_at x r = keeps x r.left && ends x r.left && some (λ c. within c r.left) zones && covers (shut x) (ended_by r) && (not (ends_open (front r) || dangles r.right) || open_ended x) && skip_ok x (front r) && tail_ok (goes_on x) (front r)

abbrev pub symbol_ok : Symbol → Bool
symbol_ok x = every (λ r. elim (is_plain r.kind r.form) [ true ↦ elim (reaches x r.left) [ true ↦ row_at x r | false ↦ true ] | false ↦ true ]) rules

-- what ends a row may be followed by the token behind it
abbrev pub fits_before : Slot → Word → Bool
fits_before x o = every (λ r. elim (used r) [ true ↦ elim (reaches x.symbol r.left) [ true ↦ not (among o (ended_by r)) && not (dangles r.right) && not (ends_open (front r)) | false ↦ true ] | false ↦ true ]) rules

-- has a node its own token
abbrev pub owns : List Part → Bool
owns [] = false
owns (word w ∷ ps) = owns ps
owns (own s ∷ ps) = true
owns (kid x ∷ ps) = owns ps
owns (run x ∷ ps) = owns ps
owns (commas x ∷ ps) = owns ps
owns (more x ∷ ps) = owns ps
owns (look bs ∷ ps) = owns ps
owns (if_has p ∷ ps) = owns ps
owns (if_not p ∷ ps) = owns ps
owns (one_default ∷ ps) = owns ps

abbrev pub row_ok : Rule → Bool
row_ok r = slots (λ x. symbol_ok x.symbol) (front r) && tail_ok (λ x o. fits_before x o) (front r)
    && bal 0 (front r) && (owns (front r) || not (uses_text r.kind || is_kind Kinds.Number r.kind))

abbrev pub two : ℕ → Bool → List Word → List Word → Symbol → List Part → Symbol → List Part → Bool
two c e l m a ps b qs =
    elim (is_tail ps) [
      | true ↦ elim (is_tail qs) [ true ↦ near e l m (behind ps) (behind qs) | false ↦ true ]
      | false ↦ elim (is_tail qs) [ true ↦ true | false ↦ elim (near e l m ps qs) [ true ↦ true | false ↦ clash c a ps b qs ] ]
    ]

abbrev pub two_at : Rule → Rule → ℕ → Bool
two_at r s c = elim (within c r.left) [ true ↦ elim (within c s.left) [ true ↦ two c (eqb r.kind s.kind && eqb r.form s.form) (with_else r) (with_else s) r.left (front r) s.left (front s) | false ↦ true ] | false ↦ true ]

abbrev pub two_ok : Rule → Rule → Bool
two_ok r s = elim (used s) [ true ↦ every (two_at r s) zones | false ↦ true ]

pub rows_ok : T (every (λ r. elim (used r) [ true ↦ row_ok r | false ↦ true ]) rules)
unfolding rules reaches rooted within whole ops shut open_ended
rows_ok = tt

pub twos_ok : T (every (λ r. elim (used r) [ true ↦ every (two_ok r) rules | false ↦ true ]) rules)
unfolding rules reaches rooted within whole ops shut open_ended
twos_ok = tt

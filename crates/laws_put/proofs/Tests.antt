-- What the rows say of the productions, tested over all of both. Assumes nothing.
use mathlib.Core.Path.{◌≡◌, refl, sym, ap, ◌∙◌, subst}
use mathlib.Core.Bool.{Bool, true, false, ◌&&◌, ◌||◌, not}
use mathlib.Core.List.{List, [], ◌∷◌, ◌++◌, map}
use lib.ListN.{get_or-eq_default}
use Prim.Native.Nat.{ℕ, zero, suc, ◌-◌, ◌^◌, ◌<◌, ◌≤◌}
use native.Mathlib.Omega.{arith}
use lib.Dec.{T, eqb, leb, eqb→eq}
use Rattle.std.proofs.Common.{inl, inr, Option, Some, None, lit<}
use Rattle.std.proofs.lemmas.Bool.{cases_eq}
use Rattle.def_text.specs.Words.{some, every}
use Rattle.def_text.specs.Grammar.{Symbol, Script, StatementListItem, Statement, Declaration, Block, FunctionBody, Catch, CaseClause, VariableBinding, ForBinding, ForInit, ForHead, PropertyDefinition, BindingIdentifier, BindingPattern, BindingTarget, BindingElement, BindingProperty, AssignmentTarget, AssignmentPattern, AssignmentElement, DestructuringAssignmentTarget, AssignmentProperty, Expression, AssignmentExpression, ConditionalExpression, ShortCircuitExpression, CoalesceExpressionHead, CoalesceExpression, LogicalORExpression, LogicalANDExpression, BitwiseORExpression, BitwiseXORExpression, BitwiseANDExpression, EqualityExpression, RelationalExpression, ShiftExpression, AdditiveExpression, MultiplicativeExpression, ExponentiationExpression, UnaryExpression, UpdateExpression, LeftHandSideExpression, NewExpression, CallExpression, MemberExpression, PrimaryExpression, Slot, Part, word, own, kid, run, commas, more, look, if_has, if_not, one_default, Rule, singles, has_list}
use Rattle.def_text.specs.Table.{code, reaches, rules}
use Rattle.laws_text.proofs.Basics.{and_left, and_right, is_T, Within, every-at, some-found, some-from, Found}
use Rattle.laws_text.proofs.Rows.{meets}
use Rattle.laws_text.proofs.Fit.{slots}
use Rattle.laws_text.proofs.Alike.{flexible, same_bool, same_modes, same_parts, same_before, parts-eq, code-eq, Before, nothing, token, looked, dark, View, no_child, first, view, plain_head}
use Rattle.laws_text.proofs.Facts.{no_guards}
use Rattle.laws_text.proofs.Kids.{short}
use Rattle.text_table.specs.Rows.{sets, Row, rows, place_of}
use Rattle.text_table.specs.Put.{members, is_bare, has_bit, symbols, freed}

abbrev pub below : (ℕ → Bool) → ℕ → Bool
below p zero = true
below p (suc n) = p n && below p n

pub below-at : (p : ℕ → Bool) (n k : ℕ) → T (below p n) → k < n → T (p k)
below-at p zero k e h = absurd (omega arith)
below-at p (suc n) k e h = elim (cases_eq k n) [
  | inl s ↦ subst (λ (j : ℕ). T (p j)) (sym s) (and_left (p n) (below p n) e)
  | inr o ↦ below-at p n k (and_right (p n) (below p n) e) (omega arith)
]

-- a test under a condition
abbrev pub if_then : Bool → Bool → Bool
if_then b x = elim b [ true ↦ x | false ↦ true ]

pub then : (b x : Bool) → T (if_then b x) → T b → T x
then true x h k = h
then false x h k = absurd k

-- two productions for nodes of one kind, form and number of children
abbrev pub same_node : Rule → Rule → Bool
same_node r q = eqb r.kind q.kind && eqb r.form q.form && eqb (singles r.right) (singles q.right) && same_bool (has_list r.right) (has_list q.right)

-- ---- where a production is reached, a row stands

abbrev pub stands_for : ℕ → Rule → Row → Bool
stands_for c q r = elim (same_node r.rule q) [ true ↦ has_bit r.at c && (same_parts r.rule.right q.right || (no_guards r.rule.right && no_guards q.right)) | false ↦ false ]

abbrev pub has_row : ℕ → Rule → Bool
has_row c q = if_then (some (λ y. reaches y q.left) (members c)) (some (stands_for c q) rows)

all-rows : T (below (λ c. every (has_row c) rules) 53)
unfolding rules rows members reaches
all-rows = tt

pub a-row : (c : ℕ) (y : Symbol) (q : Rule) → c < 53 → Within y (members c) → Within q rules → T (reaches y q.left) → Found (stands_for c q) rows
a-row c y q l u v h =
    let a = below-at (λ c. every (has_row c) rules) 53 c all-rows l in
    let b = every-at (has_row c) q rules a v in
    some-found (stands_for c q) rows (then (some (λ y. reaches y q.left) (members c)) (some (stands_for c q) rows) b (some-from (λ y. reaches y q.left) y (members c) u h))

-- ---- a production that is reached where a row stands has the row's parts, or the first child's symbol alone differs

abbrev pub plain_slot : Slot → Bool
plain_slot x = not (eqb (code x.symbol) (code ForInit) || eqb (code x.symbol) (code ForHead))

abbrev pub word_first : List Part → Bool
word_first [] = false
word_first (word w ∷ ps) = true
word_first (own s ∷ ps) = false
word_first (kid x ∷ ps) = false
word_first (run x ∷ ps) = false
word_first (commas x ∷ ps) = false
word_first (more x ∷ ps) = false
word_first (look cs ∷ ps) = false
word_first (if_has p ∷ ps) = false
word_first (if_not p ∷ ps) = false
word_first (one_default ∷ ps) = false

-- nothing is barred before a child whose symbol has nothing barred
abbrev pub bare_before : Before → Symbol → Bool
bare_before nothing y = eqb (code y) (code AssignmentPattern)
bare_before token y = true
bare_before (looked cs) y = eqb (code y) (code AssignmentPattern)
bare_before dark y = true

abbrev pub twin_views : ℕ → View → View → Bool
twin_views c no_child v = false
twin_views c (first h x t) no_child = false
twin_views c (first h x t) (first i z u) =
    same_parts t u && same_modes x z && some (λ y. eqb (code y) (code z.symbol)) (members c) && slots plain_slot t && no_guards t
    && elim (is_bare z.symbol) [ true ↦ bare_before i z.symbol | false ↦ same_before h i ]

abbrev pub alike_parts : Option ℕ → List Part → List Part → Bool
alike_parts None ps qs = same_parts ps qs && slots plain_slot ps
alike_parts (Some c) ps qs = twin_views c (view ps) (view qs) && (no_guards ps && plain_head ps) && (no_guards qs && plain_head qs)

abbrev pub twin : Row → Rule → Symbol → Bool
twin r q y = alike_parts r.first r.rule.right q.right && (not (is_bare y) || word_first q.right)

abbrev pub twin_row : ℕ → Symbol → Rule → Row → Bool
twin_row c y q r = if_then (meets r.rule q) (if_then (has_bit r.at c) (twin r q y))

abbrev pub all_twins : ℕ → Bool
all_twins c = every (λ y. every (λ q. if_then (reaches y q.left) (every (twin_row c y q) rows)) rules) (members c)

twins-ok : T (below all_twins 53)
unfolding rules rows members reaches
twins-ok = tt

pub a-twin : (c : ℕ) (y : Symbol) (q : Rule) (r : Row) → c < 53 → Within y (members c) → Within q rules → T (reaches y q.left) → Within r rows → T (meets r.rule q) → T (has_bit r.at c) → T (twin r q y)
a-twin c y q r l u v h w m b =
    let a1 = every-at (λ y. every (λ q. if_then (reaches y q.left) (every (twin_row c y q) rows)) rules) y (members c) (below-at all_twins 53 c twins-ok l) u in
    let a2 = every-at (λ q. if_then (reaches y q.left) (every (twin_row c y q) rows)) q rules a1 v in
    let a3 = every-at (twin_row c y q) r rows (then (reaches y q.left) (every (twin_row c y q) rows) a2 h) w in
    then (has_bit r.at c) (twin r q y) (then (meets r.rule q) (if_then (has_bit r.at c) (twin r q y)) a3 m) b

-- ---- where a row stands its production is reached, and its first child's place is there for each symbol of it

abbrev pub first_is : Symbol → View → Bool
first_is z no_child = false
first_is z (first h x t) = eqb (code x.symbol) (code z)

abbrev pub serves : ℕ → Row → Symbol → Rule → Bool
serves c r z q = elim (same_node r.rule q) [ true ↦ some (λ y. reaches y q.left) (members c) && first_is z (view q.right) | false ↦ false ]

abbrev pub first_ok : ℕ → Row → Option ℕ → Bool
first_ok c r None = true
first_ok c r (Some d) = leb d 52 && every (λ z. some (serves c r z) rules) (members d)

abbrev pub reached_row : ℕ → Row → Rule → Bool
reached_row c r q = elim (same_node r.rule q) [ true ↦ some (λ y. reaches y q.left) (members c) | false ↦ false ]

abbrev pub row_ok : ℕ → Row → Bool
row_ok c r = if_then (has_bit r.at c) (first_ok c r r.first && some (reached_row c r) rules)

pub rows-ok : T (below (λ c. every (row_ok c) rows) 53)
unfolding rules rows members reaches
rows-ok = tt

-- ---- a row's production is one

abbrev same_rule : Rule → Rule → Bool
same_rule r q = eqb r.kind q.kind && eqb r.form q.form && eqb (code r.left) (code q.left) && same_parts r.right q.right

rows-in : T (every (λ r. some (same_rule r.rule) rules) rows)
unfolding rules rows
rows-in = tt

rule-eq : (r q : Rule) → T (same_rule r q) → r ≡ q
rule-eq r q h =
    let a = and_left (eqb r.kind q.kind && eqb r.form q.form && eqb (code r.left) (code q.left)) (same_parts r.right q.right) h in
    let b = and_left (eqb r.kind q.kind && eqb r.form q.form) (eqb (code r.left) (code q.left)) a in
    let k = eqb→eq r.kind q.kind (and_left (eqb r.kind q.kind) (eqb r.form q.form) b) in
    let f = eqb→eq r.form q.form (and_right (eqb r.kind q.kind) (eqb r.form q.form) b) in
    let l = code-eq r.left q.left (eqb→eq (code r.left) (code q.left) (and_right (eqb r.kind q.kind && eqb r.form q.form) (eqb (code r.left) (code q.left)) a)) in
    let p = parts-eq r.right q.right (and_right (eqb r.kind q.kind && eqb r.form q.form && eqb (code r.left) (code q.left)) (same_parts r.right q.right) h) in
    ap (λ (i : ℕ). record { kind = i; form = r.form; left = r.left; right = r.right }) k
    ∙ ap (λ (i : ℕ). record { kind = q.kind; form = i; left = r.left; right = r.right }) f
    ∙ ap (λ (i : Symbol). record { kind = q.kind; form = q.form; left = i; right = r.right }) l
    ∙ ap (λ (i : List Part). record { kind = q.kind; form = q.form; left = q.left; right = i }) p

pub rule-in : (r : Row) → Within r rows → Within r.rule rules
rule-in r w =
    let f = some-found (same_rule r.rule) rules (every-at (λ r. some (same_rule r.rule) rules) r rows rows-in w) in
    subst (λ (q : Rule). Within q rules) (sym (rule-eq r.rule f.one f.passes)) f.inside

-- no row stands at place 53 or above
abbrev pub small : Row → Bool
small r = leb r.at (2 ^ 53 - 1)

pub rows-small : T (every small rows)
unfolding rows
rows-small = tt

-- every place but the last has symbols; of one symbol's place it is that one
pub members-code : (y : Symbol) → members (code y) ≡ y ∷ []
unfolding members
members-code Script = refl
members-code StatementListItem = refl
members-code Statement = refl
members-code Declaration = refl
members-code Block = refl
members-code FunctionBody = refl
members-code Catch = refl
members-code CaseClause = refl
members-code VariableBinding = refl
members-code ForBinding = refl
members-code ForInit = refl
members-code ForHead = refl
members-code PropertyDefinition = refl
members-code BindingIdentifier = refl
members-code BindingPattern = refl
members-code BindingTarget = refl
members-code BindingElement = refl
members-code BindingProperty = refl
members-code AssignmentTarget = refl
members-code AssignmentPattern = refl
members-code AssignmentElement = refl
members-code DestructuringAssignmentTarget = refl
members-code AssignmentProperty = refl
members-code Expression = refl
members-code AssignmentExpression = refl
members-code ConditionalExpression = refl
members-code ShortCircuitExpression = refl
members-code CoalesceExpressionHead = refl
members-code CoalesceExpression = refl
members-code LogicalORExpression = refl
members-code LogicalANDExpression = refl
members-code BitwiseORExpression = refl
members-code BitwiseXORExpression = refl
members-code BitwiseANDExpression = refl
members-code EqualityExpression = refl
members-code RelationalExpression = refl
members-code ShiftExpression = refl
members-code AdditiveExpression = refl
members-code MultiplicativeExpression = refl
members-code ExponentiationExpression = refl
members-code UnaryExpression = refl
members-code UpdateExpression = refl
members-code LeftHandSideExpression = refl
members-code NewExpression = refl
members-code CallExpression = refl
members-code MemberExpression = refl
members-code PrimaryExpression = refl

-- ---- where something is barred stand expressions and targets alone

abbrev pub flexes : ℕ → Bool
flexes c = every (λ y. is_bare y || flexible y) (members c)

-- a child that stands first is such a one; and one behind a lookahead, which is short
abbrev pub first_flex : Option ℕ → List Part → Bool
first_flex c [] = true
first_flex c (word w ∷ ps) = true
first_flex c (own s ∷ ps) = true
first_flex c (kid x ∷ ps) = flexes (place_of c x)
first_flex c (run x ∷ ps) = false
first_flex c (commas x ∷ ps) = false
first_flex c (more x ∷ ps) = false
first_flex c (look cs ∷ ps) = true
first_flex c (if_has p ∷ ps) = first_flex c ps
first_flex c (if_not p ∷ ps) = first_flex c ps
first_flex c (one_default ∷ ps) = first_flex c ps

abbrev pub looks_flex : Option ℕ → List Part → Bool
looks_flex c [] = true
looks_flex c (word w ∷ ps) = looks_flex c ps
looks_flex c (own s ∷ ps) = looks_flex c ps
looks_flex c (kid x ∷ ps) = looks_flex None ps
looks_flex c (run x ∷ ps) = looks_flex c ps && looks_flex None ps
looks_flex c (commas x ∷ ps) = looks_flex c ps && looks_flex None ps
looks_flex c (more x ∷ ps) = looks_flex c ps && looks_flex None ps
looks_flex c (look cs ∷ ps) = short cs && first_flex c ps && looks_flex c ps
looks_flex c (if_has p ∷ ps) = looks_flex c ps
looks_flex c (if_not p ∷ ps) = looks_flex c ps
looks_flex c (one_default ∷ ps) = looks_flex c ps

abbrev pub flex_row : ℕ → Row → Bool
flex_row c r = if_then (has_bit r.at c && flexes c) (first_flex r.first r.rule.right)

pub rows-flex : T (below (λ c. every (flex_row c) rows) 53)
unfolding rules rows members reaches
rows-flex = tt

pub rows-look : T (every (λ r. looks_flex r.first r.rule.right) rows)
unfolding rules rows members reaches
rows-look = tt

-- ---- the places that have nothing barred

abbrev pub kept_bare : ℕ → Bool
kept_bare c = every (λ y. if_then (is_bare y) (some (λ z. eqb (code z) (code y)) (members (freed c)))) (members c) && every (λ y. is_bare y && some (λ z. eqb (code z) (code y)) (members c)) (members (freed c))

pub frees-ok : T (below kept_bare 53)
unfolding members freed
frees-ok = tt

pub beyond : (c : ℕ) → 53 ≤ c → members c ≡ []
unfolding members
beyond c h = get_or-eq_default {A = List Symbol} (map (λ (y : Symbol). y ∷ []) symbols ++ sets) [] {n = c} (omega arith)

eqb-not : (a b : ℕ) → (a ≡ b → ⊥) → eqb a b ≡ false
eqb-not a b f = go (eqb a b) refl
  where
    go : (x : Bool) → eqb a b ≡ x → x ≡ false
    go true e = absurd (f (eqb→eq a b (is_T _ e)))
    go false e = refl

pub beyond-freed : (c : ℕ) → 53 ≤ c → freed c ≡ 52
unfolding freed
beyond-freed c h = rw (no 47 (lit< tt), no 48 (lit< tt), no 49 (lit< tt), no 10 (lit< tt), no 11 (lit< tt), no 19 (lit< tt), no 51 (lit< tt)) refl
  where
    no : (n : ℕ) → n < 53 → eqb c n ≡ false
    no n l = eqb-not c n (λ e. omega (arith, e, h, l))

pub members-last : members 52 ≡ []
unfolding members
members-last = refl

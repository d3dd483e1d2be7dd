-- What tokens begin with, by the first two of them. Assumes nothing.
use Rattle.std.proofs.Common.{◌≡◌, ℕ, ◌+◌, ◌-◌, ◌<◌, ◌≤◌, ◌⊎◌, leb, drop, Bool, true, false, ◌&&◌, ◌||◌, eqb, List, [], ◌∷◌, length, get_or, refl, sym, ap, ap₂, ◌∙◌, subst, inl, inr, arith}
use Rattle.std.specs.Prelude.{T, codes, Option, Some, None}
use Rattle.def_number.specs.Number.{Decimal}
use Rattle.def_number.specs.Text.{text, decimal}
use Rattle.def_text.specs.Entry.{quoted}
use Rattle.text_words.specs.Decimals.{given, decimal_text, has_text}
use Rattle.text_words.proofs.Decimals.{number-token}
use Rattle.std.proofs.lemmas.Bool.{cases_lt, eqb-true}
use borrow.Author.Tests.{ne_eqb}
use lib.ListN.{get_or-eq_default}
use lib.Pointwise.{pointwise}
use Rattle.file_read.proofs.Strings.{same_pointwise}
use Rattle.laws_number.proofs.Tests.{same_eqb}
use lib.Dec.{le→leb}
use Rattle.def_tree.specs.Base.{pick}
use Rattle.def_tree.specs.Tree.{Tree, Forest, node, cons, length_f, count}
use Rattle.def_file.specs.declared.Raw.{Raw}
use Rattle.file_read.specs.declared.header.Header.{Header}
use Rattle.file_read.specs.Load.{Readable}
use Rattle.def_text.specs.Grammar.{is_for}
use Rattle.def_text.specs.Print.{opening, opening_first, is_pattern}
use Rattle.def_text.specs.Entry.{own_number}
use Rattle.text_tokens.specs.Tokens.{node_of}
use Rattle.text_parts.specs.Parts.{row_parts, list_length, follow_parts, begin_parts}
use Rattle.text_parts.proofs.Begins as parts
use Rattle.words_nodes.specs.Nodes.{forest_from}
use Rattle.words_nodes.proofs.Loops.{open-here}
use Rattle.words_twice.proofs.Places.{forest-none, forest-cons, stand-open}
use Rattle.text_choice.specs.Trees.{extra, form_of, lay_first, cores, tree_of, trees_of, spelled, kids_of, shown}
use Rattle.text_choice.proofs.Planted.{nodes-length, whole, kids-stand, laid-shown, pattern-form}
use Rattle.def_file.specs.Script.{same_text}
use Rattle.def_text.specs.Words.{Word, is_number}
use Rattle.def_text.specs.Table.{rules}
use Rattle.def_text.specs.Derives.{laid_all, begins, barred}
use Rattle.laws_text.proofs.Basics.{text-eq}
use Rattle.text_table.specs.declared.Bars.{Bars}
use Rattle.text_table.specs.declared.Bars.TheVariants as Barred
use Rattle.text_table.specs.Rows.{words, rows, no_row, parts_of}
use Rattle.text_words.specs.Words.{word}
use Rattle.text_rows.proofs.Tests.{all_below, below-at}
use Rattle.text_spots.specs.Spots.{bars_of, next_of}
use Rattle.text_choice.specs.declared.opening.Beginning.TheVariants as Beginnings
use Rattle.text_choice.specs.Choice.{barred_by, first_tokens, Opens}

true-T : (b : Bool) → b ≡ true → T b
true-T b e = subst T (sym e) tt

-- no token, or one that is none of those
none-barred : (b : Bars) → barred (bars_of b) [] ≡ barred_by b Beginnings.Other
none-barred Barred.Nothing = refl
none-barred Barred.Statement = refl
none-barred Barred.LetBracket = refl
none-barred Barred.Of = refl
none-barred Barred.Body = refl

pub opens-nothing : Opens Beginnings.Other []
opens-nothing = record { is = none-barred }

module _ (w : Word) (r : List Word) where
  pub opens-other : same_text (codes "{") w ≡ false → same_text (codes "function") w ≡ false → same_text (codes "let") w ≡ false → same_text (codes "async") w ≡ false → Opens Beginnings.Other (w ∷ r)
  opens-other p q s t = record { is = go }
    where
      go : (b : Bars) → barred (bars_of b) (w ∷ r) ≡ barred_by b Beginnings.Other
      go Barred.Nothing = refl
      go Barred.Statement = rw (p, q, s) refl
      go Barred.LetBracket = rw s refl
      go Barred.Of = rw (s, t) refl
      go Barred.Body = rw p refl

  brace-barred : (b : Bars) → barred (bars_of b) (codes "{" ∷ r) ≡ barred_by b Beginnings.Brace
  brace-barred Barred.Nothing = refl
  brace-barred Barred.Statement = refl
  brace-barred Barred.LetBracket = refl
  brace-barred Barred.Of = refl
  brace-barred Barred.Body = refl

  pub opens-brace : same_text (codes "{") w ≡ true → Opens Beginnings.Brace (w ∷ r)
  opens-brace e = subst (λ (v : Word). Opens Beginnings.Brace (v ∷ r)) (text-eq (codes "{") w (true-T _ e)) (record { is = brace-barred })

  function-barred : (b : Bars) → barred (bars_of b) (codes "function" ∷ r) ≡ barred_by b Beginnings.Function
  function-barred Barred.Nothing = refl
  function-barred Barred.Statement = refl
  function-barred Barred.LetBracket = refl
  function-barred Barred.Of = refl
  function-barred Barred.Body = refl

  pub opens-function : same_text (codes "function") w ≡ true → Opens Beginnings.Function (w ∷ r)
  opens-function e = subst (λ (v : Word). Opens Beginnings.Function (v ∷ r)) (text-eq (codes "function") w (true-T _ e)) (record { is = function-barred })

-- ---- words by their numbers

abbrev same_bool : Bool → Bool → Bool
same_bool true b = b
same_bool false true = false
same_bool false false = true

same-eq : (a b : Bool) → T (same_bool a b) → a ≡ b
same-eq true true h = refl
same-eq true false h = absurd h
same-eq false true h = absurd h
same-eq false false h = refl

words-length : length words ≡ 85
unfolding words
words-length = refl

word-past : (j : ℕ) → 85 ≤ j → word j ≡ []
unfolding word
word-past j l = get_or-eq_default words [] {n = j} (omega (arith, words-length))

not-nothing : (v : Word) → 0 < length v → same_text v [] ≡ false
not-nothing [] h = absurd (omega arith)
not-nothing (c ∷ v) h = refl

-- v is word i and no other
word-only : (v : Word) (i : ℕ) → i < 85 → 0 < length v → T (all_below (λ j. same_bool (same_text v (word j)) (eqb j i)) 85) → (j : ℕ) → same_text v (word j) ≡ eqb j i
word-only v i l n h j = elim (cases_lt j 85) [
  | inl m ↦ same-eq (same_text v (word j)) (eqb j i) (below-at (λ j. same_bool (same_text v (word j)) (eqb j i)) 85 j h m)
  | inr m ↦ ap (same_text v) (word-past j m) ∙ not-nothing v n ∙ sym (ne_eqb j i (λ e. omega arith))
]

-- v is no word
word-none : (v : Word) → 0 < length v → T (all_below (λ j. same_bool (same_text v (word j)) false) 85) → (j : ℕ) → same_text v (word j) ≡ false
word-none v n h j = elim (cases_lt j 85) [
  | inl m ↦ same-eq (same_text v (word j)) false (below-at (λ j. same_bool (same_text v (word j)) false) 85 j h m)
  | inr m ↦ ap (same_text v) (word-past j m) ∙ not-nothing v n
]

brace-test : T (all_below (λ j. same_bool (same_text (codes "{") (word j)) (eqb j 0)) 85)
unfolding word words
brace-test = tt

pub brace-word : (j : ℕ) → same_text (codes "{") (word j) ≡ eqb j 0
brace-word = word-only (codes "{") 0 (omega arith) (omega arith) brace-test

function-test : T (all_below (λ j. same_bool (same_text (codes "function") (word j)) (eqb j 7)) 85)
unfolding word words
function-test = tt

pub function-word : (j : ℕ) → same_text (codes "function") (word j) ≡ eqb j 7
function-word = word-only (codes "function") 7 (omega arith) (omega arith) function-test

let-test : T (all_below (λ j. same_bool (same_text (codes "let") (word j)) (eqb j 4)) 85)
unfolding word words
let-test = tt

pub let-word : (j : ℕ) → same_text (codes "let") (word j) ≡ eqb j 4
let-word = word-only (codes "let") 4 (omega arith) (omega arith) let-test

of-test : T (all_below (λ j. same_bool (same_text (codes "of") (word j)) (eqb j 17)) 85)
unfolding word words
of-test = tt

of-word : (j : ℕ) → same_text (codes "of") (word j) ≡ eqb j 17
of-word = word-only (codes "of") 17 (omega arith) (omega arith) of-test

bracket-test : T (all_below (λ j. same_bool (same_text (codes "[") (word j)) (eqb j 32)) 85)
unfolding word words
bracket-test = tt

bracket-word : (j : ℕ) → same_text (codes "[") (word j) ≡ eqb j 32
bracket-word = word-only (codes "[") 32 (omega arith) (omega arith) bracket-test

async-test : T (all_below (λ j. same_bool (same_text (codes "async") (word j)) false) 85)
unfolding word words
async-test = tt

pub async-word : (j : ℕ) → same_text (codes "async") (word j) ≡ false
async-word = word-none (codes "async") (omega arith) async-test

-- ---- the second token

and-true : (b : Bool) → (b && true) ≡ b
and-true true = refl
and-true false = refl

next-begins : (v : Word) (i : ℕ) → i < 85 → ((j : ℕ) → same_text v (word j) ≡ eqb j i) → (f : ℕ) → begins (v ∷ []) (next_of f) ≡ eqb f i
next-begins v i l h f = go (eqb f 255) refl
  where
    go : (b : Bool) → eqb f 255 ≡ b → begins (v ∷ []) (pick b [] (word f ∷ [])) ≡ eqb f i
    go true e = sym (ne_eqb f i (λ q. let z = eqb-true f 255 e in omega arith))
    go false e = and-true (same_text v (word f)) ∙ h f

last : (b : Bool) → elim b as (λ z. Bool) [ true ↦ true | false ↦ false ] ≡ b
last true = refl
last false = refl

let-barred : (f : ℕ) (b : Bars) → barred (bars_of b) (codes "let" ∷ next_of f) ≡ barred_by b (Beginnings.Let f)
let-barred f Barred.Nothing = refl
let-barred f Barred.Statement = last (begins (codes "[" ∷ []) (next_of f)) ∙ next-begins (codes "[") 32 (omega arith) bracket-word f
let-barred f Barred.LetBracket = last (begins (codes "[" ∷ []) (next_of f)) ∙ next-begins (codes "[") 32 (omega arith) bracket-word f
let-barred f Barred.Of = refl
let-barred f Barred.Body = refl

async-barred : (f : ℕ) (b : Bars) → barred (bars_of b) (codes "async" ∷ next_of f) ≡ barred_by b (Beginnings.Async f)
async-barred f Barred.Nothing = refl
async-barred f Barred.Statement = refl
async-barred f Barred.LetBracket = refl
async-barred f Barred.Of = last (begins (codes "of" ∷ []) (next_of f)) ∙ next-begins (codes "of") 17 (omega arith) of-word f
async-barred f Barred.Body = refl

module _ (w : Word) (f : ℕ) where
  pub opens-let : same_text (codes "let") w ≡ true → Opens (Beginnings.Let f) (w ∷ next_of f)
  opens-let e = subst (λ (v : Word). Opens (Beginnings.Let f) (v ∷ next_of f)) (text-eq (codes "let") w (true-T _ e)) (record { is = let-barred f })

  pub opens-async : same_text (codes "async") w ≡ true → Opens (Beginnings.Async f) (w ∷ next_of f)
  opens-async e = subst (λ (v : Word). Opens (Beginnings.Async f) (v ∷ next_of f)) (text-eq (codes "async") w (true-T _ e)) (record { is = async-barred f })

-- ---- a text by the tests of it

same-turned : (a b : List ℕ) → same_text a b ≡ same_text b a
same-turned [] [] = refl
same-turned [] (y ∷ b) = refl
same-turned (x ∷ a) [] = refl
same-turned (x ∷ a) (y ∷ b) = ap₂ (λ (p q : Bool). p && q) (same_eqb x y y x sym sym) (same-turned a b)

pub text-told : (v t s : List ℕ) (b : Bool) → s ≡ v → b ≡ pointwise eqb t s → same_text v t ≡ b
text-told v t s b e f = same-turned v t ∙ ap (same_text t) (sym e) ∙ sym (same_pointwise t s) ∙ sym f

-- ---- a number or a string is none of those

number-not : (v w : Word) → is_number v ≡ false → is_number w ≡ true → same_text v w ≡ false
number-not v w e f = go (same_text v w) refl
  where
    go : (b : Bool) → same_text v w ≡ b → same_text v w ≡ false
    go true p = (let q = text-eq v w (true-T _ p) in let z : ◌≡◌ {A = Bool} true false = sym f ∙ ap is_number (sym q) ∙ e in absurd (cc))
    go false p = p

pub opens-number : (b : ℕ) (r : List Word) → Opens Beginnings.Other (decimal_text b ∷ r)
opens-number b r = go (decimal b) (number-token b)
  where
    go : (d : Option Decimal) → is_number (given d) ≡ has_text d → Opens Beginnings.Other (given d ∷ r)
    go None e = opens-other [] r refl refl refl refl
    go (Some x) e = opens-other (text x) r (number-not (codes "{") (text x) refl e) (number-not (codes "function") (text x) refl e) (number-not (codes "let") (text x) refl e) (number-not (codes "async") (text x) refl e)

pub opens-string : (t : Word) (r : List Word) → Opens Beginnings.Other (quoted t ∷ r)
opens-string t r = opens-other (quoted t) r refl refl refl refl

-- ---- a pattern begins with its bracket

zero-many : (m : ℕ) → T (eqb 0 m || leb 0 m)
zero-many m = go (eqb 0 m) (leb 0 m) (le→leb 0 m (omega arith))
  where
    go : (a b : Bool) → T b → T (a || b)
    go true b t = tt
    go false b t = t

object-for : (m : ℕ) → T (is_for 45 0 m (get_or rows 128 no_row).rule)
unfolding rows rules
object-for m = zero-many m

array-for : (m : ℕ) → T (is_for 46 0 m (get_or rows 130 no_row).rule)
unfolding rows rules
array-for m = zero-many m

object-begins : (d : ℕ) (o : Word) (n first : List Word) → begin_parts d o n first (row_parts 128) ≡ word 0 ∷ follow_parts d (drop 1 (row_parts 128)) n
unfolding rows rules parts_of words
object-begins d o n first = refl

array-begins : (d : ℕ) (o : Word) (n first : List Word) → begin_parts d o n first (row_parts 130) ≡ word 32 ∷ follow_parts d (drop 1 (row_parts 130)) n
unfolding rows rules parts_of words
array-begins d o n first = refl

pub opens-word-32 : (r : List Word) → Opens Beginnings.Other (word 32 ∷ r)
opens-word-32 r = opens-other (word 32) r (brace-word 32) (function-word 32) (let-word 32) (async-word 32)

module _ (spell : ℕ → ℕ → Word) (k f a : ℕ) (ts : Forest) (z : f ≡ 0) where
  abbrev m : ℕ
  m = length_f ts

  abbrev first : List Word
  first = opening_first spell ts

  pub opens-object : k ≡ 45 → Opens Beginnings.Brace (opening spell (node k f a ts) [])
  opens-object e =
      let q : opening spell (node k f a ts) [] ≡ word 0 ∷ follow_parts (list_length 128 m) (drop 1 (row_parts 128)) [] =
      parts.begins k f m 128 (spell k a) [] first (omega arith) (rw (e, z) (object-for m)) ∙ object-begins (list_length 128 m) (spell k a) [] first
      in subst (λ (ws : List Word). Opens Beginnings.Brace ws) (sym q) (opens-brace (word 0) (follow_parts (list_length 128 m) (drop 1 (row_parts 128)) []) (brace-word 0))

  pub opens-array : k ≡ 46 → Opens Beginnings.Other (opening spell (node k f a ts) [])
  opens-array e =
      let q : opening spell (node k f a ts) [] ≡ word 32 ∷ follow_parts (list_length 130 m) (drop 1 (row_parts 130)) [] =
      parts.begins k f m 130 (spell k a) [] first (omega arith) (rw (e, z) (array-for m)) ∙ array-begins (list_length 130 m) (spell k a) [] first
      in subst (λ (ws : List Word). Opens Beginnings.Other ws) (sym q) (opens-word-32 (follow_parts (list_length 130 m) (drop 1 (row_parts 130)) []))

-- ---- a first child

pub first-none : (bs : List ℕ) (h : Header) (k : ℕ) → (node_of bs h k).arity ≡ 0 → first_tokens bs h k ≡ []
first-none bs h k e =
    let x = node_of bs h k in
    ap (λ (n : ℕ). opening_first (spelled bs h) (lay_first (extra x.kind x.form) (trees_of bs h n (k + 1)))) e
    ∙ ap (λ (ts : Forest). opening_first (spelled bs h) (lay_first (extra x.kind x.form) ts)) (forest-none (cores bs h) (k + 1))

module _ (bs : List ℕ) (h : Header) (R : Readable bs h.nodes h.texts) (k : ℕ) (l : k < h.nodes) (z : 0 < (node_of bs h k).arity) where
  abbrev x : Raw
  x = node_of bs h k

  abbrev y : Raw
  y = node_of bs h (k + 1)

  abbrev shape : ℕ
  shape = form_of y.kind y.form (extra x.kind x.form)

  pub first-in : k + 1 < h.nodes
  first-in = omega (arith, open-here (whole bs h R) (stand-open (kids-stand bs h R k l)) z, nodes-length bs h R)

  first-is : first_tokens bs h k ≡ elim (is_pattern y.kind) [ true ↦ opening (spelled bs h) (shown bs h (k + 1) shape) [] | false ↦ [] ]
  first-is =
      let d = extra x.kind x.form in
      let t = tree_of bs h (k + 1) in
      let rest = forest_from (cores bs h) (x.arity - 1) (k + 1 + count t) in
      ap (λ (ts : Forest). opening_first (spelled bs h) (lay_first d ts)) (forest-cons (whole bs h R) (stand-open (kids-stand bs h R k l)) z)
      ∙ ap (λ (u : Tree). opening_first (spelled bs h) (cons u (laid_all rest))) (laid-shown bs h R (k + 1) first-in d)

  shape-zero : (y.kind ≡ 45) ⊎ (y.kind ≡ 46) → shape ≡ 0
  shape-zero o =
      let f = pattern-form bs h R (k + 1) first-in o in
      elim o [ inl e ↦ ap (λ (j : ℕ). form_of j y.form (extra x.kind x.form)) e ∙ f | inr e ↦ ap (λ (j : ℕ). form_of j y.form (extra x.kind x.form)) e ∙ f ]

  pub first-object : y.kind ≡ 45 → Opens Beginnings.Brace (first_tokens bs h k)
  first-object e =
      let w = opening (spelled bs h) (shown bs h (k + 1) shape) [] in
      let q : first_tokens bs h k ≡ w = first-is ∙ ap (λ (j : ℕ). elim (is_pattern j) as (λ z. List Word) [ true ↦ w | false ↦ [] ]) e in
      subst (λ (ws : List Word). Opens Beginnings.Brace ws) (sym q) (opens-object (spelled bs h) y.kind shape (own_number y) (kids_of bs h (k + 1)) (shape-zero (inl e)) e)

  pub first-other : (y.kind ≡ 45 → ⊥) → Opens Beginnings.Other (first_tokens bs h k)
  first-other d = subst (λ (ws : List Word). Opens Beginnings.Other ws) (sym first-is) (go (eqb y.kind 45) refl (eqb y.kind 46) refl)
    where
      go : (a : Bool) → eqb y.kind 45 ≡ a → (b : Bool) → eqb y.kind 46 ≡ b → Opens Beginnings.Other (elim (a || b) [ true ↦ opening (spelled bs h) (shown bs h (k + 1) shape) [] | false ↦ [] ])
      go true e b f = absurd (d (eqb-true y.kind 45 e))
      go false e true f = (let q = eqb-true y.kind 46 f in opens-array (spelled bs h) y.kind shape (own_number y) (kids_of bs h (k + 1)) (shape-zero (inr q)) q)
      go false e false f = opens-nothing

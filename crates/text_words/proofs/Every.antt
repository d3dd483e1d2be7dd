-- Tests over lists, element by element. Assumes nothing.
use Rattle.std.proofs.Common.{◌≡◌, ℕ, zero, suc, ◌<◌, ◌≤◌, Bool, true, false, ◌&&◌, eqb, leb, List, [], ◌∷◌, length, get_or, map, refl, sym, ap, ◌∙◌, arith}
use Rattle.std.specs.Prelude.{T}
use Rattle.std.specs.Cmp.Lexicographic.{pointwise}
use Rattle.std.proofs.lemmas.Bool.{leb-true, eqb-true}
use Rattle.def_file.specs.Script.{same_text}
use Rattle.def_text.specs.Words.{every, some, reserved}
use Rattle.text_words.specs.declared.word.Word.{Word as Entry}
use Rattle.text_table.specs.Rows.{words}
use Rattle.text_words.specs.declared.word.TheConstants.{RESERVED, WORDS}
use Rattle.text_words.specs.Words.{bytes_of, word}

module _ (p : ℕ → Bool) where
  stop : (b : Bool) (x : Bool) → b ≡ false → elim b as (λ z. Bool) [ true ↦ x | false ↦ false ] ≡ false
  stop b x e = ap (λ (c : Bool). elim c as (λ z. Bool) [ true ↦ x | false ↦ false ]) e

  both-false : (b : Bool) → elim b as (λ z. Bool) [ true ↦ false | false ↦ false ] ≡ false
  both-false true = refl
  both-false false = refl

  pub every-fails : (xs : List ℕ) (i : ℕ) → i < length xs → p (get_or xs i 0) ≡ false → every p xs ≡ false
  every-fails [] i l e = absurd (omega arith)
  every-fails (x ∷ xs) zero l e = stop (p x) (every p xs) e
  every-fails (x ∷ xs) (suc i) l e = ap (λ (b : Bool). elim (p x) as (λ z. Bool) [ true ↦ b | false ↦ false ]) (every-fails xs i (omega arith) e) ∙ both-false (p x)

  pub every-holds : (xs : List ℕ) → ((i : ℕ) → i < length xs → p (get_or xs i 0) ≡ true) → every p xs ≡ true
  every-holds [] h = refl
  every-holds (x ∷ xs) h = ap (λ (b : Bool). elim b as (λ z. Bool) [ true ↦ every p xs | false ↦ false ]) (h 0 (omega arith)) ∙ every-holds xs (λ i l. h (suc i) (omega arith))

-- ---- texts compared

pub same-pointwise : (a b : List ℕ) → pointwise eqb a b ≡ same_text a b
same-pointwise [] [] = refl
same-pointwise [] (y ∷ b) = refl
same-pointwise (x ∷ a) [] = refl
same-pointwise (x ∷ a) (y ∷ b) = ap (λ (z : Bool). eqb x y && z) (same-pointwise a b)

-- ---- the reserved words

pub reserved-are : map bytes_of RESERVED ≡ reserved
reserved-are = refl

some-hit : (w : List ℕ) (xs : List Entry) (i : ℕ) (d : Entry) → i < length xs → same_text w (bytes_of (get_or xs i d)) ≡ true → some (same_text w) (map bytes_of xs) ≡ true
some-hit w [] i d l e = absurd (omega arith)
some-hit w (x ∷ xs) zero d l e = ap (λ (b : Bool). elim b as (λ z. Bool) [ true ↦ true | false ↦ some (same_text w) (map bytes_of xs) ]) e
some-hit w (x ∷ xs) (suc i) d l e = ap (λ (b : Bool). elim (same_text w (bytes_of x)) as (λ z. Bool) [ true ↦ true | false ↦ b ]) (some-hit w xs i d (omega arith) e) ∙ yes (same_text w (bytes_of x))
  where
    yes : (b : Bool) → elim b as (λ z. Bool) [ true ↦ true | false ↦ true ] ≡ true
    yes true = refl
    yes false = refl

some-miss : (w : List ℕ) (xs : List Entry) (d : Entry) → ((i : ℕ) → i < length xs → same_text w (bytes_of (get_or xs i d)) ≡ false) → some (same_text w) (map bytes_of xs) ≡ false
some-miss w [] d h = refl
some-miss w (x ∷ xs) d h = ap (λ (b : Bool). elim b as (λ z. Bool) [ true ↦ true | false ↦ some (same_text w) (map bytes_of xs) ]) (h 0 (omega arith)) ∙ some-miss w xs d (λ i l. h (suc i) (omega arith))

abbrev pub no_entry : Entry
no_entry = record { len = 0; bytes = [] }

-- the default is not read
pub get-same : (xs : List Entry) (i : ℕ) (d e : Entry) → i < length xs → get_or xs i d ≡ get_or xs i e
get-same [] i d e h = absurd (omega arith)
get-same (x ∷ xs) zero d e h = refl
get-same (x ∷ xs) (suc i) d e h = get-same xs i d e (omega arith)

pub hit : (w : List ℕ) (i : ℕ) (d : Entry) → i < length RESERVED → same_text w (bytes_of (get_or RESERVED i d)) ≡ true → some (same_text w) reserved ≡ true
hit w i d l e = ap (some (same_text w)) (sym reserved-are) ∙ some-hit w RESERVED i d l e

pub miss : (w : List ℕ) → ((i : ℕ) → i < length RESERVED → same_text w (bytes_of (get_or RESERVED i no_entry)) ≡ false) → some (same_text w) reserved ≡ false
miss w h = ap (some (same_text w)) (sym reserved-are) ∙ some-miss w RESERVED no_entry h

-- they have at most ten bytes
abbrev all_short : List Entry → Bool
all_short [] = true
all_short (x ∷ xs) = leb x.len 10 && all_short xs

short : T (all_short RESERVED)
short = tt

len-in : (xs : List Entry) (i : ℕ) (d : Entry) → T (all_short xs) → i < length xs → (get_or xs i d).len ≤ 10
len-in [] i d t h = absurd (omega arith)
len-in (x ∷ xs) zero d t h = leb-true x.len 10 (first (leb x.len 10) (all_short xs) t)
  where
    first : (p q : Bool) → T (p && q) → p ≡ true
    first true q t = refl
    first false q t = absurd t
len-in (x ∷ xs) (suc i) d t h = len-in xs i d (rest (leb x.len 10) (all_short xs) t) (omega arith)
  where
    rest : (p q : Bool) → T (p && q) → T q
    rest true q t = t
    rest false q t = absurd t

pub len-at : (i : ℕ) (d : Entry) → i < length RESERVED → (get_or RESERVED i d).len ≤ 10
len-at i d h = len-in RESERVED i d short h

-- ---- the words of the productions

words-are : map bytes_of WORDS ≡ words
unfolding words
words-are = refl

get-map : (xs : List Entry) (i : ℕ) (d : Entry) → i < length xs → get_or (map bytes_of xs) i [] ≡ bytes_of (get_or xs i d)
get-map [] i d h = absurd (omega arith)
get-map (x ∷ xs) zero d h = refl
get-map (x ∷ xs) (suc i) d h = get-map xs i d (omega arith)

pub word-at : (i : ℕ) (d : Entry) → i < length WORDS → word i ≡ bytes_of (get_or WORDS i d)
unfolding word
word-at i d h = ap (λ (xs : List (List ℕ)). get_or xs i []) (sym words-are) ∙ get-map WORDS i d h

abbrev all_full : List Entry → Bool
all_full [] = true
all_full (x ∷ xs) = leb x.len 10 && eqb (length (bytes_of x)) x.len && all_full xs

full : T (all_full WORDS)
full = tt

full-first : (x : Entry) (xs : List Entry) → T (all_full (x ∷ xs)) → (x.len ≤ 10) × (length (bytes_of x) ≡ x.len) × T (all_full xs)
full-first x xs t = go (leb x.len 10) refl (eqb (length (bytes_of x)) x.len) refl t
  where
    go : (a : Bool) → leb x.len 10 ≡ a → (b : Bool) → eqb (length (bytes_of x)) x.len ≡ b → T (a && b && all_full xs) → (x.len ≤ 10) × (length (bytes_of x) ≡ x.len) × T (all_full xs)
    go true e true f t = (leb-true x.len 10 e, eqb-true (length (bytes_of x)) x.len f, t)
    go true e false f t = absurd t
    go false e b f t = absurd t

full-in : (xs : List Entry) (i : ℕ) (d : Entry) → T (all_full xs) → i < length xs → ((get_or xs i d).len ≤ 10) × (length (bytes_of (get_or xs i d)) ≡ (get_or xs i d).len)
full-in [] i d t h = absurd (omega arith)
full-in (x ∷ xs) zero d t h = let f = full-first x xs t in (f.0, f.1)
full-in (x ∷ xs) (suc i) d t h = full-in xs i d (full-first x xs t).2 (omega arith)

pub word-full : (i : ℕ) (d : Entry) → i < length WORDS → ((get_or WORDS i d).len ≤ 10) × (length (word i) ≡ (get_or WORDS i d).len)
word-full i d h = let f = full-in WORDS i d full h in (f.0, ap length (word-at i d h) ∙ f.1)

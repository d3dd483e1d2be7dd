-- Lists of tokens: which token they do not begin with, and what a token's sort says of it. Assumes nothing.
use mathlib.Core.Path.{◌≡◌, refl, sym, ap, ◌∙◌, subst}
use mathlib.Core.Bool.{Bool, true, false, ◌&&◌, ◌||◌, not}
use mathlib.Core.List.{List, [], ◌∷◌}
use Prim.Native.Nat.{ℕ, ◌≤◌}
use native.Mathlib.Omega.{arith}
use lib.Dec.{T, eqb, leb, eqb→eq, leb→le, le→leb}
use Rattle.std.specs.Prelude.{codes}
use Rattle.def_file.specs.Script.{same_text}
use Rattle.def_text.specs.Words.{Word, every, among, between, is_digit, starts_name, is_name, is_variable, point, digits, is_number, in_string, is_string, reserved}
use Rattle.def_text.specs.Grammar.{Sort, name, variable, number, string}
use Rattle.def_text.specs.Derives.{sort_ok}
use Rattle.laws_text.proofs.Basics.{and_left, and_right, both, T-not, text-eq, text-refl, every-at, some-found}
use Rattle.laws_reading.proofs.Tests.{covers, sort_class, openers, closers}

-- the tokens begin with none of these
abbrev pub avoids : List Word → List Word → Bool
avoids ws [] = true
avoids ws (z ∷ zs) = not (among z ws)

pub avoids-none : (zs : List Word) → T (avoids [] zs)
avoids-none [] = tt
avoids-none (z ∷ zs) = tt

pub covers-at : (vs ws : List Word) (w : Word) → T (covers vs ws) → T (among w ws) → T (among w vs)
covers-at vs ws w h k =
    let f = some-found (same_text w) ws k in
    subst (λ (z : Word). T (among z vs)) (sym (text-eq w f.one f.passes)) (every-at (λ z. among z vs) f.one ws h f.inside)

covers-in : (us ws : List Word) → ((w : Word) → T (among w ws) → T (among w us)) → T (covers us ws)
covers-in us [] f = tt
covers-in us (w ∷ ws) f = go (among w us) (f w (first (same_text w w) (text-refl w))) (covers-in us ws (λ v h. f v (later (same_text v w) (among v ws) h)))
  where
    first : (b : Bool) → T b → T (elim b [ true ↦ true | false ↦ among w ws ])
    first true t = tt
    first false t = absurd t

    later : (b c : Bool) → T c → T (elim b [ true ↦ true | false ↦ c ])
    later true c t = tt
    later false c t = t

    go : (b : Bool) → T b → T (covers us ws) → T (elim b [ true ↦ covers us ws | false ↦ false ])
    go true t r = r
    go false t r = absurd t

pub covers-same : (ws : List Word) → T (covers ws ws)
covers-same ws = covers-in ws ws (λ w h. h)

pub covers-both : (us vs ws : List Word) → T (covers us vs) → T (covers vs ws) → T (covers us ws)
covers-both us vs ws h k = covers-in us ws (λ w t. covers-at us vs w h (covers-at vs ws w k t))

pub avoids-less : (vs ws zs : List Word) → T (covers vs ws) → T (avoids vs zs) → T (avoids ws zs)
avoids-less vs ws [] h k = tt
avoids-less vs ws (z ∷ zs) h k = go (among z ws) (λ t. covers-at vs ws z h t)
  where
    go : (b : Bool) → (T b → T (among z vs)) → T (not b)
    go true f = absurd (T-not (among z vs) k (f tt))
    go false f = tt

pub avoids-drop : (w : Word) (ws zs : List Word) → T (avoids (w ∷ ws) zs) → T (avoids ws zs)
avoids-drop w ws [] k = tt
avoids-drop w ws (z ∷ zs) k = go (same_text z w) k
  where
    go : (b : Bool) → T (not (elim b [ true ↦ true | false ↦ among z ws ])) → T (not (among z ws))
    go true k = absurd k
    go false k = k

pub avoids-first : (w : Word) (ws zs : List Word) → T (avoids (w ∷ ws) (w ∷ zs)) → ⊥
avoids-first w ws zs k = go (same_text w w) (text-refl w) k
  where
    go : (b : Bool) → T b → T (not (elim b [ true ↦ true | false ↦ among w ws ])) → ⊥
    go true t k = k
    go false t k = t

-- the tokens begin, and with no closing bracket
abbrev pub opens : List Word → Bool
opens [] = false
opens (z ∷ zs) = not (among z closers)

pub closes-not : (c : Word) (xs ys : List Word) → T (among c closers) → c ∷ xs ≡ ys → T (opens ys) → ⊥
closes-not c xs ys h e k = T-not (among c closers) (subst (λ (z : List Word). T (opens z)) (sym e) k) h

-- ---- sorts

or-elim : {A : Type 0} (p q : Bool) → T (p || q) → (T p → A) → (T q → A) → A
or-elim true q h f g = f tt
or-elim false q h f g = g h

-- 1 for a digit, 2 for a quote, 0 for others
abbrev pub first_class : ℕ → ℕ
first_class c = elim (eqb c 34) [ true ↦ 2 | false ↦ elim (is_digit c) [ true ↦ 1 | false ↦ 0 ] ]

abbrev pub token_class : Word → ℕ
token_class [] = 3
token_class (c ∷ w) = first_class c

range : (a b c : ℕ) → T (between a b c) → (a ≤ c) × (c ≤ b)
range a b c h = (leb→le a c (and_left (leb a c) (leb c b) h), leb→le c b (and_right (leb a c) (leb c b) h))

no-letter : (c : ℕ) → T (starts_name c) → T (between 48 57 c) → ⊥
no-letter c h d =
    let r = range 48 57 c d in
    or-elim (between 97 122 c || between 65 90 c || eqb c 36) (eqb c 95) h
    (λ t. or-elim (between 97 122 c || between 65 90 c) (eqb c 36) t
    (λ t. or-elim (between 97 122 c) (between 65 90 c) t
    (λ t. let s = range 97 122 c t in absurd (omega (arith, r, s)))
    (λ t. let s = range 65 90 c t in absurd (omega (arith, r, s))))
    (λ t. let s = eqb→eq c 36 t in absurd (omega (arith, r, s))))
    (λ t. let s = eqb→eq c 95 t in absurd (omega (arith, r, s)))

letter-class : (c : ℕ) → T (starts_name c) → first_class c ≡ 0
letter-class c h = go (eqb c 34) (λ t. eqb→eq c 34 t) (is_digit c) (λ t. no-letter c h t)
  where
    go : (b : Bool) → (T b → c ≡ 34) → (d : Bool) → (T d → ⊥) → (elim b as (λ x. ℕ) [ true ↦ 2 | false ↦ elim d as (λ x. ℕ) [ true ↦ 1 | false ↦ 0 ] ]) ≡ 0
    go true f d g = absurd (subst (λ (i : ℕ). T (starts_name i)) (f tt) h)
    go false f true g = absurd (g tt)
    go false f false g = refl

digit-class : (c : ℕ) → T (is_digit c) → first_class c ≡ 1
digit-class c h = go (eqb c 34) (λ t. eqb→eq c 34 t) (is_digit c) h
  where
    go : (b : Bool) → (T b → c ≡ 34) → (d : Bool) → T d → (elim b as (λ x. ℕ) [ true ↦ 2 | false ↦ elim d as (λ x. ℕ) [ true ↦ 1 | false ↦ 0 ] ]) ≡ 1
    go true f d t = absurd (subst (λ (i : ℕ). T (is_digit i)) (f tt) h)
    go false f true t = refl
    go false f false t = absurd t

from-49 : (c : ℕ) → T (between 49 57 c) → first_class c ≡ 1
from-49 c h =
    let r = range 49 57 c h in
    digit-class c (both (leb 48 c) (leb c 57) (le→leb 48 c (omega (arith, r))) (and_right (leb 49 c) (leb c 57) h))

name-class : (w : Word) → T (is_name w) → token_class w ≡ 0
name-class [] h = absurd h
name-class (c ∷ w) h = letter-class c (and_left (starts_name c) (every (λ d. starts_name d || is_digit d) w) h)

number-class : (w : Word) → T (is_number w) → token_class w ≡ 1
number-class [] h = absurd h
number-class (c ∷ w) h = or-elim (eqb c 48 && point w) (between 49 57 c && digits w) h
    (λ t. subst (λ (i : ℕ). first_class i ≡ 1) (sym (eqb→eq c 48 (and_left (eqb c 48) (point w) t))) refl)
    (λ t. from-49 c (and_left (between 49 57 c) (digits w) t))

string-class : (w : Word) → T (is_string w) → token_class w ≡ 2
string-class [] h = absurd h
string-class (c ∷ w) h = subst (λ (i : ℕ). first_class i ≡ 2) (sym (eqb→eq c 34 (and_left (eqb c 34) (in_string w) h))) refl

pub sort-class : (s : Sort) (w : Word) → T (sort_ok s w) → token_class w ≡ sort_class s
sort-class name w h = name-class w h
sort-class variable w h = name-class w (and_left (is_name w) (not (among w reserved)) h)
sort-class number w h = number-class w h
sort-class string w h = string-class w h

no-three : (x y z w : Word) (p : Word → Bool) → T (p w) → p x ≡ false → p y ≡ false → p z ≡ false → T (not (among w (x ∷ y ∷ z ∷ [])))
no-three x y z w p h e f g = go (same_text w x) (same_text w y) (same_text w z) (λ t. at x t e) (λ t. at y t f) (λ t. at z t g)
  where
    at : (v : Word) → T (same_text w v) → p v ≡ false → ⊥
    at v t e = subst T (ap p (text-eq w v t) ∙ e) h

    go : (a b c : Bool) → (T a → ⊥) → (T b → ⊥) → (T c → ⊥) → T (not (elim a [ true ↦ true | false ↦ elim b [ true ↦ true | false ↦ elim c [ true ↦ true | false ↦ false ] ] ]))
    go true b c x y z = absurd (x tt)
    go false true c x y z = absurd (y tt)
    go false false true x y z = absurd (z tt)
    go false false false x y z = tt

pub sort-opens : (s : Sort) (w : Word) → T (sort_ok s w) → T (not (among w closers))
sort-opens name w h = no-three (codes ")") (codes "]") (codes "}") w is_name h refl refl refl
sort-opens variable w h = no-three (codes ")") (codes "]") (codes "}") w is_variable h refl refl refl
sort-opens number w h = no-three (codes ")") (codes "]") (codes "}") w is_number h refl refl refl
sort-opens string w h = no-three (codes ")") (codes "]") (codes "}") w is_string h refl refl refl

pub sort-within : (s : Sort) (w : Word) → T (sort_ok s w) → T (not (among w openers))
sort-within name w h = no-three (codes "(") (codes "[") (codes "{") w is_name h refl refl refl
sort-within variable w h = no-three (codes "(") (codes "[") (codes "{") w is_variable h refl refl refl
sort-within number w h = no-three (codes "(") (codes "[") (codes "{") w is_number h refl refl refl
sort-within string w h = no-three (codes "(") (codes "[") (codes "{") w is_string h refl refl refl

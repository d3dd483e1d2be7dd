-- Canonical forms worked out by hand from the request, and what the writer answers at its limits. Assumes nothing: these are definitions.
use Rattle.std.specs.Prelude.{◌≡◌, refl, List, [], ◌∷◌, map, ℕ, zero, suc, set}
use Rattle.def_file.specs.declared.Raw.{Raw}
use Rattle.def_file.specs.Script.{Script}
use Rattle.def_file.specs.Write.{file}
use Rattle.def_pass.specs.Table.{n}
use Rattle.def_pass.specs.Refusals.{contexts}
use Rattle.def_canon.specs.Canon.{canon}
use Rattle.def_canon.specs.Entry.{Writing, refused, wrote, canon_entry}

abbrev pub tree : List (List ℕ) → List Raw → Script
tree ts xs = record { nodes = xs; texts = ts }

-- texts
abbrev pub a : List ℕ
a = 97 ∷ []

abbrev pub o : List ℕ
o = 111 ∷ []

abbrev pub p : List ℕ
p = 112 ∷ []

abbrev pub x : List ℕ
x = 120 ∷ []

abbrev pub y : List ℕ
y = 121 ∷ []

-- two names as statements: text and context of each
abbrev pub two : ℕ → ℕ → ℕ → ℕ → List Raw
two t b u c = n 1 0 2 0 0 ∷ n 4 0 1 0 0 ∷ n 21 0 0 t b ∷ n 4 0 1 0 0 ∷ n 21 0 0 u c ∷ []

-- o.p; by text numbers
abbrev pub member_of : ℕ → ℕ → List Raw
member_of t u = n 1 0 1 0 0 ∷ n 4 0 1 0 0 ∷ n 37 0 1 t 0 ∷ n 21 0 0 u 3 ∷ []

-- var {p: x} = o; by text numbers, in one context
abbrev pub key_of : ℕ → ℕ → ℕ → ℕ → List Raw
key_of t u v c = n 1 0 1 0 0 ∷ n 5 0 1 0 0 ∷ n 6 0 2 0 0 ∷ n 45 0 1 0 0 ∷ n 47 0 1 t 0 ∷ n 20 0 0 u c ∷ n 21 0 0 v c ∷ []

-- ({p: "s"}); by text numbers
abbrev pub property_of : ℕ → ℕ → List Raw
property_of t u = n 1 0 1 0 0 ∷ n 4 0 1 0 0 ∷ n 28 0 1 0 0 ∷ n 29 0 1 t 0 ∷ n 25 0 0 u 0 ∷ []

-- 9; x; where the number's bits are 9
abbrev pub number_and_name : ℕ → ℕ → List Raw
number_and_name b c = n 1 0 2 0 0 ∷ n 4 0 1 0 0 ∷ n 24 0 0 0 b ∷ n 4 0 1 0 0 ∷ n 21 0 0 0 c ∷ []

-- one string as a statement
abbrev pub string_of : ℕ → List Raw
string_of t = n 1 0 1 0 0 ∷ n 4 0 1 0 0 ∷ n 25 0 0 t 0 ∷ []

-- ;
abbrev pub empty : List Raw
empty = n 1 0 1 0 0 ∷ n 3 0 0 0 0 ∷ []

-- an array of k strings or names
abbrev pub array_of : ℕ → List Raw → List Raw
array_of k xs = n 1 0 1 0 0 ∷ n 4 0 1 0 0 ∷ n 27 0 k 0 0 ∷ xs

-- strings, the last text first, and as they are written
abbrev pub last_first : ℕ → List Raw
last_first zero = []
last_first (suc k) = n 25 0 0 k 0 ∷ last_first k

abbrev pub in_order : ℕ → ℕ → List Raw
in_order i zero = []
in_order i (suc k) = n 25 0 0 i 0 ∷ in_order (suc i) k

abbrev pub up : ℕ → ℕ → List (List ℕ)
up i zero = []
up i (suc k) = (i ∷ []) ∷ up (suc i) k

abbrev pub down : ℕ → List (List ℕ)
down zero = []
down (suc k) = (k ∷ []) ∷ down k

-- a script, and its canonical form
pub record Form : Type 0 where
  pub script : Script
  pub form : Script

abbrev pub gives : Script → Script → Form
gives s c = record { script = s; form = c }

abbrev pub forms : List Form
forms =
    -- x; y; in contexts 5 and 7, the texts in another order and one of no use first
    gives (tree (a ∷ y ∷ x ∷ []) (two 2 5 1 7)) (tree (x ∷ y ∷ []) (two 0 0 1 1))
    -- x; y; in contexts 7 and 5
    ∷ gives (tree (x ∷ y ∷ []) (two 0 7 1 5)) (tree (x ∷ y ∷ []) (two 0 0 1 1))
    -- x; y; in one context
    ∷ gives (tree (x ∷ y ∷ []) (two 0 7 1 7)) (tree (x ∷ y ∷ []) (two 0 0 1 0))
    -- x; x; in two contexts and in one
    ∷ gives (tree (x ∷ []) (two 0 18446744073709551615 0 0)) (tree (x ∷ []) (two 0 0 0 1))
    ∷ gives (tree (x ∷ []) (two 0 9 0 9)) (tree (x ∷ []) (two 0 0 0 0))
    -- [x, y, x], the first use counts
    ∷ gives (tree (y ∷ x ∷ []) (array_of 3 (n 21 0 0 1 5 ∷ n 21 0 0 0 7 ∷ n 21 0 0 1 5 ∷ []))) (tree (x ∷ y ∷ []) (array_of 3 (n 21 0 0 0 0 ∷ n 21 0 0 1 1 ∷ n 21 0 0 0 0 ∷ [])))
    -- texts that only a member has, a property and a string, and a pattern's property
    ∷ gives (tree (o ∷ p ∷ []) (member_of 1 0)) (tree (p ∷ o ∷ []) (n 1 0 1 0 0 ∷ n 4 0 1 0 0 ∷ n 37 0 1 0 0 ∷ n 21 0 0 1 0 ∷ []))
    ∷ gives (tree (x ∷ a ∷ p ∷ []) (property_of 2 0)) (tree (p ∷ x ∷ []) (property_of 0 1))
    ∷ gives (tree (o ∷ p ∷ x ∷ []) (key_of 1 2 0 2)) (tree (p ∷ x ∷ o ∷ []) (key_of 0 1 2 0))
    -- a number's bits are no context
    ∷ gives (tree (x ∷ []) (number_and_name 9 9)) (tree (x ∷ []) (number_and_name 9 0))
    -- the empty text; no texts; none of use
    ∷ gives (tree (a ∷ [] ∷ []) (string_of 1)) (tree ([] ∷ []) (string_of 0))
    ∷ gives (tree [] empty) (tree [] empty)
    ∷ gives (tree (a ∷ []) empty) (tree [] empty)
    -- 256 texts, and 256 contexts
    ∷ gives (tree (up 0 256) (array_of 256 (last_first 256))) (tree (down 256) (array_of 256 (in_order 0 256)))
    ∷ []

pub forms-right : map (λ (f : Form). canon f.script) forms ≡ map (λ (f : Form). f.form) forms
unfolding canon
forms-right = refl

pub forms-stay : map (λ (f : Form). canon f.form) forms ≡ map (λ (f : Form). f.form) forms
unfolding canon
forms-stay = refl

-- ; with a text of no use
abbrev pub unused : Script
unused = tree (a ∷ []) empty

abbrev pub names : ℕ → Script
names k = tree (x ∷ []) (array_of k (contexts k))

abbrev pub on : Script → Writing
unfolding canon_entry file
on s = canon_entry 16384 (file s) 0

-- words; the header, by version, numbers and places; equal texts; no script; 257 and 256 identifiers; the room of the result, not of the file
pub answers :
    canon_entry 0 [] 0
    ∷ canon_entry 16383 (file unused) 64
    ∷ canon_entry 16384 [] 0
    ∷ canon_entry 16384 (set (file unused) 8 0) 0
    ∷ canon_entry 16384 (set (file unused) 4 70) 0
    ∷ on (tree (a ∷ a ∷ []) empty)
    ∷ on (tree [] (n 3 0 0 0 0 ∷ []))
    ∷ on (names 257)
    ∷ on (names 256)
    ∷ canon_entry 16384 (file unused) 63
    ∷ canon_entry 16384 (file unused) 64
    ∷ canon_entry 16385 (file unused) 65
    ∷ []
    ≡ refused 1
    ∷ refused 1
    ∷ refused 2
    ∷ refused 3
    ∷ refused 4
    ∷ refused 5
    ∷ refused 6
    ∷ refused 7
    ∷ refused 16
    ∷ refused 16
    ∷ wrote (file (tree [] empty))
    ∷ wrote (file (tree [] empty))
    ∷ []
unfolding canon_entry file
answers = refl

-- What does not differ only so: one context where there were two, one changed text, one changed literal, one changed form. Assumes nothing.
use mathlib.Core.Path.{◌≡◌, refl, sym, ap}
use mathlib.Core.Bool.{true, false}
use mathlib.Core.List.{List, [], ◌∷◌}
use Prim.Native.Nat.{ℕ}
use native.Mathlib.Omega.{arith}
use lib.ListN.{get_or}
use borrow.Author.Tests.{clash}
use Rattle.def_pass.specs.Table.{n}
use Rattle.def_pass.specs.Entry.{refused, passed}
use Rattle.def_canon.specs.Differ.{Differ, SameEnds}
use Rattle.def_canon.specs.Examples.{tree, two, member_of, key_of, property_of, number_and_name}

abbrev o : List ℕ
o = 111 ∷ []

abbrev p : List ℕ
p = 112 ∷ []

abbrev x : List ℕ
x = 120 ∷ []

abbrev y : List ℕ
y = 121 ∷ []

-- x; y; in two contexts and in one
merged : Differ (tree (x ∷ y ∷ []) (two 0 5 1 7)) (tree (x ∷ y ∷ []) (two 0 5 1 5)) → ⊥
merged d = clash (d.contexts 3 5 (omega arith, omega arith) (omega arith, omega arith) tt tt)

split : Differ (tree (x ∷ y ∷ []) (two 0 5 1 5)) (tree (x ∷ y ∷ []) (two 0 5 1 7)) → ⊥
split d = clash (sym (d.contexts 3 5 (omega arith, omega arith) (omega arith, omega arith) tt tt))

-- another text: of a name, a member, a property, a string and a pattern's property
other : x ≡ y → ⊥
other e = let q : ◌≡◌ {A = ℕ} 120 121 = ap (λ (l : List ℕ). get_or l 0 0) e in omega (arith, q)

named : Differ (tree (x ∷ y ∷ []) (two 0 5 0 5)) (tree (x ∷ y ∷ []) (two 0 5 1 5)) → ⊥
named d = other (d.texts 5 (omega arith, omega arith) tt)

member : Differ (tree (o ∷ x ∷ []) (member_of 1 0)) (tree (o ∷ y ∷ []) (member_of 1 0)) → ⊥
member d = other (d.texts 3 (omega arith, omega arith) tt)

property : Differ (tree (o ∷ x ∷ []) (property_of 1 0)) (tree (o ∷ y ∷ []) (property_of 1 0)) → ⊥
property d = other (d.texts 4 (omega arith, omega arith) tt)

string : Differ (tree (o ∷ x ∷ []) (property_of 0 1)) (tree (o ∷ y ∷ []) (property_of 0 1)) → ⊥
string d = other (d.texts 5 (omega arith, omega arith) tt)

key : Differ (tree (o ∷ p ∷ x ∷ []) (key_of 2 1 0 2)) (tree (o ∷ p ∷ y ∷ []) (key_of 2 1 0 2)) → ⊥
key d = other (d.texts 5 (omega arith, omega arith) tt)

-- another number, and another boolean
number : Differ (tree (x ∷ []) (number_and_name 9 9)) (tree (x ∷ []) (number_and_name 8 9)) → ⊥
number d = let q : ◌≡◌ {A = ℕ} 9 8 = d.bits 3 (omega arith, omega arith) refl in omega (arith, q)

boolean : Differ (tree [] (n 1 0 1 0 0 ∷ n 4 0 1 0 0 ∷ n 23 0 0 0 0 ∷ [])) (tree [] (n 1 0 1 0 0 ∷ n 4 0 1 0 0 ∷ n 23 1 0 0 0 ∷ [])) → ⊥
boolean d = let s = d.shape 3 (omega arith, omega arith) in let q : ◌≡◌ {A = ℕ} 0 1 = s.forms in omega (arith, q)

-- a node more
longer : Differ (tree [] (n 1 0 1 0 0 ∷ n 3 0 0 0 0 ∷ [])) (tree [] (n 1 0 2 0 0 ∷ n 3 0 0 0 0 ∷ n 3 0 0 0 0 ∷ [])) → ⊥
longer d = let q : ◌≡◌ {A = ℕ} 2 3 = d.count in omega (arith, q)

-- another refusal; a refusal that is not 10 where the other ends with a result; other runs, another mark
refusals : SameEnds (refused 8) (refused 9) → ⊥
refusals e = let q : ◌≡◌ {A = ℕ} 8 9 = e in omega (arith, q)

stopped : SameEnds (refused 9) (passed 48 1 false [] []) → ⊥
stopped e = let q : ◌≡◌ {A = ℕ} 9 10 = e in omega (arith, q)

again : SameEnds (passed 48 1 false [] []) (refused 9) → ⊥
again e = let q : ◌≡◌ {A = ℕ} 9 10 = e in omega (arith, q)

runs : SameEnds (passed 48 1 false [] []) (passed 48 2 false [] []) → ⊥
runs e = let q : ◌≡◌ {A = ℕ} 1 2 = e.runs in omega (arith, q)

marks : SameEnds (passed 48 1 false [] []) (passed 48 1 true [] []) → ⊥
marks e = clash e.marks

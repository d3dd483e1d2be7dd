-- What is freed at each place, and where a node in a pair stands. Assumes nothing.
use Rattle.std.proofs.Common.{◌≡◌, ℕ, ◌+◌, ◌*◌, ◌<◌, Bool, true, false, ◌&&◌, ◌||◌, eqb, ◌⊎◌, inl, inr, List, [], ◌∷◌, get_or, slice_index_or, Option, Some, None, refl, sym, ap, ◌∙◌, subst}
use Rattle.std.specs.Prelude.{T, not}
use Rattle.std.proofs.lemmas.Bool.{eqb-true}
use Rattle.def_text.specs.Grammar.{is_for}
use Rattle.def_text.specs.Table.{rules}
use Rattle.text_table.specs.declared.TheConstants.{ALL_PARTS}
use Rattle.text_table.specs.declared.Kids.{Kids}
use Rattle.text_table.specs.declared.Part.{Part}
use Rattle.text_table.specs.declared.Part.TheVariants as Parts
use Rattle.text_table.specs.declared.Bars.TheVariants as Barred
use Rattle.text_table.specs.Rows.{Row, rows, no_row}
use Rattle.text_table.specs.Put as Put
use Rattle.text_table.specs.Put.{freed, first_row, stand, stands, first_spot, spots_of}
use Rattle.text_rows.specs.Rows.{below, spot_of as place_only}
use Rattle.text_rows.proofs.Tests.{all_below, below-at}
use Rattle.text_spots.specs.declared.Spot.{Spot}
use Rattle.text_spots.specs.Spots.{spot_of}

abbrev pub freed_list : List ℕ
freed_list =
    52 ∷ 52 ∷ 52 ∷ 52 ∷ 52 ∷ 52 ∷ 52 ∷ 52 ∷ 52 ∷ 52 ∷ 10 ∷ 11 ∷ 52 ∷ 52 ∷ 52 ∷ 52 ∷ 52 ∷ 52 ∷ 52 ∷ 19 ∷ 52 ∷ 52 ∷ 52 ∷ 52 ∷ 52 ∷ 52 ∷ 52 ∷ 52 ∷ 52 ∷ 52 ∷ 52 ∷ 52 ∷ 52 ∷ 52 ∷ 52 ∷ 52 ∷ 52 ∷ 52 ∷ 52
    ∷ 52 ∷ 52 ∷ 52 ∷ 52 ∷ 52 ∷ 52 ∷ 52 ∷ 52 ∷ 10 ∷ 51 ∷ 19 ∷ 52 ∷ 51 ∷ 52 ∷ []

abbrev is_freed : ℕ → Bool
is_freed c = eqb (slice_index_or {A = ℕ} freed_list c 0) (freed c)

all-freed : T (all_below is_freed 53)
unfolding freed
all-freed = tt

is-true : (b : Bool) → T b → b ≡ true
is-true true t = refl
is-true false t = absurd t

pub freed-at : (c : ℕ) → c < 53 → slice_index_or {A = ℕ} freed_list c 0 ≡ freed c
freed-at c h = eqb-true _ _ (is-true _ (below-at is_freed 53 c all-freed h))

pub free-is : (s : Spot) (i : ℕ) → i ≡ s.place.place → s.place.place < 53 → spot_of record { place = record { place = slice_index_or {A = ℕ} freed_list i 0; has_in = s.place.has_in; has_return = s.place.has_return; has_else = s.place.has_else }; bars = Barred.Nothing; next = 255 } ≡ Put.free (spot_of s)
free-is s i e h = ap at (ap (λ (j : ℕ). slice_index_or {A = ℕ} freed_list j 0) e ∙ freed-at s.place.place h)
  where
    at : ℕ → Put.Spot
    at p = record { place = p; has_in = s.place.has_in; has_return = s.place.has_return; has_else = s.place.has_else; bars = []; next = [] }

-- ---- a pair's rows

abbrev is_pair : ℕ → Bool
is_pair i = not (is_for 41 0 1 (get_or rows i no_row).rule) || (eqb i 123 || eqb i 124)

all-pairs : T (all_below is_pair 136)
unfolding rows rules
all-pairs = tt

one-of : (a b c : Bool) → a ≡ true → T (not a || (b || c)) → (b ≡ true) ⊎ (c ≡ true)
one-of true true c e t = inl refl
one-of true false true e t = inr refl
one-of true false false e t = absurd t
one-of false b c e t = absurd (cc)

pub pair-at : (i : ℕ) → i < 136 → is_for 41 0 1 (get_or rows i no_row).rule ≡ true → (i ≡ 123) ⊎ (i ≡ 124)
pair-at i h e = elim (one-of _ (eqb i 123) (eqb i 124) e (below-at is_pair 136 i all-pairs h)) [
  | inl a ↦ inl (eqb-true i 123 a)
  | inr b ↦ inr (eqb-true i 124 b)
]

some-eq : (x r : Row) → Some x ≡ Some r → x ≡ r
some-eq x r h = cc

found-at : (p : Row → Bool) (x : Row) (xs : List Row) (r : Row) (b : Bool) → p x ≡ b → elim b as (λ z. Option Row) [ true ↦ Some x | false ↦ first_row p xs ] ≡ Some r → (first_row p xs ≡ Some r → p r ≡ true) → p r ≡ true
found-at p x xs r true q h k = subst (λ (y : Row). p y ≡ true) (some-eq x r h) q
found-at p x xs r false q h k = k h

found : (p : Row → Bool) (rs : List Row) (r : Row) → first_row p rs ≡ Some r → p r ≡ true
found p [] r e = absurd (cc)
found p (x ∷ xs) r e = found-at p x xs r (p x) refl e (λ h. found p xs r h)

first-of : (p q r : Bool) → (p && q && r) ≡ true → p ≡ true
first-of true q r e = refl
first-of false q r e = absurd (cc)

pub pair-row : (i : ℕ) (s : Put.Spot) → i < 136 → stand 41 0 1 s ≡ Some (get_or rows i no_row) → (i ≡ 123) ⊎ (i ≡ 124)
unfolding stand
pair-row i s h e = pair-at i h (first-of (is_for 41 0 1 (get_or rows i no_row).rule) _ _ (found (stands 41 0 1 s) rows (get_or rows i no_row) e))

abbrev pub child : Put.Spot → Kids → Put.Spot
child s k = record { place = k.place; has_in = below k.has_in s.has_in; has_return = below k.has_return s.has_return; has_else = below k.has_else s.has_else; bars = []; next = [] }

-- where the second of a row's parts has its children, in a pair around one node
abbrev pub AtPart : Option Put.Spot → Put.Spot → Part → Type 0
AtPart o s (Parts.Kids k) = o ≡ Some (child s k)
AtPart o s p = ⊥

part-at : (i : ℕ) (s : Put.Spot) (d : Part) → (i ≡ 123) ⊎ (i ≡ 124) → AtPart (first_spot (spots_of (get_or rows i no_row) 1 s)) s (get_or ALL_PARTS (i * 11 + 1) d)
unfolding rows rules
part-at i s d (inl e) = subst (λ (j : ℕ). AtPart (first_spot (spots_of (get_or rows j no_row) 1 s)) s (get_or ALL_PARTS (j * 11 + 1) d)) (sym e) refl
part-at i s d (inr e) = subst (λ (j : ℕ). AtPart (first_spot (spots_of (get_or rows j no_row) 1 s)) s (get_or ALL_PARTS (j * 11 + 1) d)) (sym e) refl

abbrev first_in : Option Row → Put.Spot → Option Put.Spot
first_in o s = elim o as (λ z. Option Put.Spot) [ None ↦ None | Some r ↦ first_spot (spots_of r 1 s) ]

pub inner-at : (i : ℕ) (s : Put.Spot) (d : Part) → i < 136 → stand 41 0 1 s ≡ Some (get_or rows i no_row) → AtPart (Put.inner s) s (get_or ALL_PARTS (i * 11 + 1) d)
inner-at i s d h e = subst (λ (o : Option Row). AtPart (first_in o s) s (get_or ALL_PARTS (i * 11 + 1) d)) (sym e) (part-at i s d (pair-row i s h e))

-- as the port looks for it
pub inner-none : (s : Spot) → stand 41 0 1 (place_only s.place) ≡ None → Put.inner (spot_of s) ≡ None
unfolding stand
inner-none s e = ap (λ (o : Option Row). first_in o (spot_of s)) e

pub inner-some : (s : Spot) (i : ℕ) (p : Part) → get_or ALL_PARTS (i * 11 + 1) Parts.End ≡ p → (i < 136) × (stand 41 0 1 (place_only s.place) ≡ Some (get_or rows i no_row)) → AtPart (Put.inner (spot_of s)) (spot_of s) p
unfolding stand
inner-some s i p q e = subst (AtPart (Put.inner (spot_of s)) (spot_of s)) q (inner-at i (spot_of s) Parts.End e.0 e.1)

pub kids-there : (o : Option Put.Spot) (s : Put.Spot) (p : Part) → AtPart o s p → ((k : Kids) → p ≡ Parts.Kids k → ⊥) → ⊥
kids-there o s (Parts.Kids k) h f = f k refl
kids-there o s p h f = h

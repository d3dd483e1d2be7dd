-- The row that is found, or that there is none. Assumes nothing.
use Rattle.std.proofs.Common.{◌≡◌, ℕ, zero, suc, ◌/◌, ◌%◌, ◌^◌, ◌<◌, ◌≤◌, ◌⊎◌, inl, inr, Bool, true, false, ◌&&◌, eqb, List, [], ◌∷◌, length, get_or, refl, sym, ap, ◌∙◌, Option, Some, None, arith}
use Rattle.std.proofs.Common.{ap₂, eq-eqb}
use Rattle.text_table.specs.declared.TheConstants.{ROWS}
use Rattle.text_table.specs.declared.Row.{Row as Entry}
use Rattle.std.proofs.lemmas.Bool.{cases_lt, eqb-true}
use Rattle.def_text.specs.Grammar.{Script, is_for, right_for}
use Rattle.def_text.specs.Print.{asked}
use Rattle.text_table.specs.Rows.{Row, rows, no_row}
use Rattle.text_table.specs.Put.{Spot, symbol_at, has_bit, stands, first_row, stand}
use Rattle.text_rows.specs.Rows.{RangeIs}
use Rattle.text_rows.proofs.Tests.{rows-length, table-at}

first-at : (p : Row → Bool) (rs : List Row) (i : ℕ) → i < length rs → p (get_or rs i no_row) ≡ true → ((j : ℕ) → j < i → p (get_or rs j no_row) ≡ false) → first_row p rs ≡ Some (get_or rs i no_row)
first-at p [] i l e h = absurd (omega arith)
first-at p (r ∷ rs) zero l e h = ap (λ (b : Bool). elim b as (λ z. Option Row) [ true ↦ Some r | false ↦ first_row p rs ]) e
first-at p (r ∷ rs) (suc i) l e h = ap (λ (b : Bool). elim b as (λ z. Option Row) [ true ↦ Some r | false ↦ first_row p rs ]) (h 0 (omega arith)) ∙ first-at p rs i (omega arith) e (λ j k. h (suc j) (omega arith))

first-none : (p : Row → Bool) (rs : List Row) → ((j : ℕ) → j < length rs → p (get_or rs j no_row) ≡ false) → first_row p rs ≡ None
first-none p [] h = refl
first-none p (r ∷ rs) h = ap (λ (b : Bool). elim b as (λ z. Option Row) [ true ↦ Some r | false ↦ first_row p rs ]) (h 0 (omega arith)) ∙ first-none p rs (λ j k. h (suc j) (omega arith))

pub not-true : (b : Bool) → (b ≡ true → ⊥) → b ≡ false
not-true true h = absurd (h refl)
not-true false h = refl

pub and-false : (p q : Bool) → p ≡ false → (p && q) ≡ false
and-false true q e = absurd (cc)
and-false false q e = refl

pub and-last : (p q : Bool) → q ≡ false → (p && q) ≡ false
and-last true q e = e
and-last false q e = refl

pub and-true : (p q : Bool) → p ≡ true → q ≡ true → (p && q) ≡ true
and-true true q e f = f
and-true false q e f = absurd (cc)

-- a row for a kind and form has them
for-parts : (k f n i : ℕ) → is_for k f n (get_or rows i no_row).rule ≡ true → ((get_or rows i no_row).rule.kind ≡ k) × ((get_or rows i no_row).rule.form ≡ f)
for-parts k f n i e =
    let r = (get_or rows i no_row).rule in
    let a = left (eqb r.kind k && eqb r.form f) _ e in
    (eqb-true r.kind k (left (eqb r.kind k) (eqb r.form f) a), eqb-true r.form f (right (eqb r.kind k) (eqb r.form f) a))
  where
    left : (p q : Bool) → (p && q) ≡ true → p ≡ true
    left true q e = refl
    left false q e = absurd (cc)

    right : (p q : Bool) → (p && q) ≡ true → q ≡ true
    right true q e = e
    right false q e = absurd (cc)

-- outside its range there is none
pub outside : (k f n a b i : ℕ) → RangeIs k f a b → i < 136 → (i < a) ⊎ (b ≤ i) → is_for k f n (get_or rows i no_row).rule ≡ false
outside k f n a b i r l o = not-true (is_for k f n (get_or rows i no_row).rule) (λ e. let p = for-parts k f n i e in let q = r.all i l p.0 p.1 in elim o [ inl h ↦ omega (arith, q.0, h) | inr h ↦ omega (arith, q.1, h) ])

-- a row that does not stand
pub not-for : (k f n : ℕ) (s : Spot) (r : Row) → is_for k f n r.rule ≡ false → stands k f n s r ≡ false
not-for k f n s r e = and-false (is_for k f n r.rule && has_bit r.at s.place) (asked (symbol_at s Script) (right_for n r.rule)) (and-false (is_for k f n r.rule) (has_bit r.at s.place) e)

pub not-bit : (k f n : ℕ) (s : Spot) (r : Row) → has_bit r.at s.place ≡ false → stands k f n s r ≡ false
not-bit k f n s r e = and-false (is_for k f n r.rule && has_bit r.at s.place) (asked (symbol_at s Script) (right_for n r.rule)) (and-last (is_for k f n r.rule) (has_bit r.at s.place) e)

pub not-asked : (k f n : ℕ) (s : Spot) (r : Row) → asked (symbol_at s Script) (right_for n r.rule) ≡ false → stands k f n s r ≡ false
not-asked k f n s r e = and-last (is_for k f n r.rule && has_bit r.at s.place) (asked (symbol_at s Script) (right_for n r.rule)) e

pub all-three : (k f n : ℕ) (s : Spot) (r : Row) → is_for k f n r.rule ≡ true → has_bit r.at s.place ≡ true → asked (symbol_at s Script) (right_for n r.rule) ≡ true → stands k f n s r ≡ true
all-three k f n s r a b c = and-true (is_for k f n r.rule && has_bit r.at s.place) (asked (symbol_at s Script) (right_for n r.rule)) (and-true (is_for k f n r.rule) (has_bit r.at s.place) a b) c

pub stand-at : (k f n a b i : ℕ) (s : Spot) → RangeIs k f a b → i < 136 → ((j : ℕ) → a ≤ j → j < i → stands k f n s (get_or rows j no_row) ≡ false) → stands k f n s (get_or rows i no_row) ≡ true → stand k f n s ≡ Some (get_or rows i no_row)
unfolding stand
stand-at k f n a b i s r l h e = first-at (stands k f n s) rows i (omega (arith, rows-length)) e (λ j m. elim (cases_lt j a) [ inl q ↦ not-for k f n s (get_or rows j no_row) (outside k f n a b j r (omega arith) (inl q)) | inr q ↦ h j q m ])

pub stand-none : (k f n a b : ℕ) (s : Spot) → RangeIs k f a b → ((j : ℕ) → a ≤ j → j < b → stands k f n s (get_or rows j no_row) ≡ false) → stand k f n s ≡ None
unfolding stand
stand-none k f n a b s r h = first-none (stands k f n s) rows (λ j m. let l : j < 136 = omega (arith, rows-length) in elim (cases_lt j a) [
  | inl q ↦ not-for k f n s (get_or rows j no_row) (outside k f n a b j r l (inl q))
  | inr q ↦ elim (cases_lt j b) [ inl t ↦ h j q t | inr t ↦ not-for k f n s (get_or rows j no_row) (outside k f n a b j r l (inr t)) ]
])

-- ---- a bit of the constant table's row is the row's

module _ (i place by : ℕ) (d : Entry) (l : i < 136) (e : by ≡ place) where
  same : (get_or ROWS i d).at / 2 ^ by % 2 ≡ (get_or rows i no_row).at / 2 ^ place % 2
  same = ap₂ (λ (x : Entry) (n : ℕ). x.at / 2 ^ n % 2) (table-at i d l) e

  pub bit-true : (get_or ROWS i d).at / 2 ^ by % 2 ≡ 1 → has_bit (get_or rows i no_row).at place ≡ true
  bit-true h = eq-eqb ((get_or rows i no_row).at / 2 ^ place % 2) 1 (sym same ∙ h)

  pub bit-false : ((get_or ROWS i d).at / 2 ^ by % 2 ≡ 1 → ⊥) → has_bit (get_or rows i no_row).at place ≡ false
  bit-false h = not-true (has_bit (get_or rows i no_row).at place) (λ q. h (same ∙ eqb-true ((get_or rows i no_row).at / 2 ^ place % 2) 1 q))

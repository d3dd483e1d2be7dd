-- The text of a decimal of at most 25 digits is a DecimalLiteral. Assumes nothing.
use mathlib.Core.Bool.{Bool, true, false, ◌&&◌, ◌||◌}
use Rattle.std.proofs.Common.{◌≡◌, ℕ, zero, suc, ◌+◌, ◌/◌, ◌%◌, ◌^◌, ◌<◌, ◌≤◌, ◌⊎◌, inl, inr, List, [], ◌∷◌, ◌++◌, eqb, leb, refl, sym, ap, ◌∙◌, subst, Option, Some, None, arith, if◌then◌else◌}
use Rattle.std.proofs.lemmas.Bool.{cases_eq, leb-true, le-leb, eqb-true, eqb-false}
use Rattle.def_number.specs.Number.{Decimal, fewest, is_plain}
use Rattle.def_number.specs.Text.{last_digits, width, digit_count, text, decimal}
use Rattle.def_text.specs.Words.{every, between, is_digit, point, digits, is_number}
use Rattle.text_words.specs.Decimals.{given, has_text, NumberToken}

both : (p q : Bool) → p ≡ true → q ≡ true → (p && q) ≡ true
both true q e f = f
both false q e f = absurd (cc)

or-left : (p q : Bool) → p ≡ true → (p || q) ≡ true
or-left true q e = refl
or-left false q e = absurd (cc)

or-right : (p q : Bool) → q ≡ true → (p || q) ≡ true
or-right true q e = refl
or-right false q e = e

in-between : (a b c : ℕ) → a ≤ c → c ≤ b → between a b c ≡ true
in-between a b c h k = both (leb a c) (leb c b) (le-leb a c h) (le-leb c b k)

digit-byte : (d : ℕ) → is_digit (48 + d % 10) ≡ true
digit-byte d = in-between 48 57 (48 + d % 10) (omega arith) (omega arith)

every-append : (p : ℕ → Bool) (v w : List ℕ) → every p v ≡ true → every p w ≡ true → every p (v ++ w) ≡ true
every-append p [] w h k = k
every-append p (c ∷ v) w h k = go (p c) refl h (λ q. every-append p v w q k)
  where
    go : (b : Bool) → p c ≡ b → elim b as (λ z. Bool) [ true ↦ every p v | false ↦ false ] ≡ true → (every p v ≡ true → every p (v ++ w) ≡ true) → elim (p c) as (λ z. Bool) [ true ↦ every p (v ++ w) | false ↦ false ] ≡ true
    go true e h f = ap (λ (b : Bool). elim b as (λ z. Bool) [ true ↦ every p (v ++ w) | false ↦ false ]) e ∙ f h
    go false e h f = absurd (cc)

every-one : (p : ℕ → Bool) (c : ℕ) → p c ≡ true → every p (c ∷ []) ≡ true
every-one p c e = ap (λ (b : Bool). elim b as (λ z. Bool) [ true ↦ true | false ↦ false ]) e

-- digits alone
all-digits : (k d : ℕ) → every is_digit (last_digits k d) ≡ true
unfolding last_digits
all-digits zero d = refl
all-digits (suc k) d = every-append is_digit (last_digits k (d / 10)) ((48 + d % 10) ∷ []) (all-digits k (d / 10)) (every-one is_digit (48 + d % 10) (digit-byte d))

-- a first digit that is not 0, and digits
record Lead (w : List ℕ) : Type 0 where
  head : ℕ
  tail : List ℕ
  is : w ≡ head ∷ tail
  low : 49 ≤ head
  high : head ≤ 57
  rest : every is_digit tail ≡ true

lead-more : (w : List ℕ) (c : ℕ) → is_digit c ≡ true → Lead w → Lead (w ++ (c ∷ []))
lead-more w c e l = record { head = l.head; tail = l.tail ++ (c ∷ []); is = ap (λ (v : List ℕ). v ++ (c ∷ [])) l.is; low = l.low; high = l.high; rest = every-append is_digit l.tail (c ∷ []) l.rest (every-one is_digit c e) }

width-zero : (n : ℕ) → width n 0 ≡ 0
unfolding width
width-zero zero = refl
width-zero (suc n) = refl

width-suc : (n d : ℕ) → 0 < d → width (suc n) d ≡ suc (width n (d / 10))
unfolding width
width-suc n d h = ap (λ (b : Bool). if b then 0 else suc (width n (d / 10))) (eqb-false' d (omega arith))
  where
    eqb-false' : (d : ℕ) → (d ≡ 0 → ⊥) → eqb d 0 ≡ false
    eqb-false' d h = go (eqb d 0) refl
      where
        go : (b : Bool) → eqb d 0 ≡ b → b ≡ false
        go true e = absurd (h (eqb-true d 0 e))
        go false e = refl

lead : (n d : ℕ) → 0 < d → width n d < n → Lead (last_digits (width n d) d)
unfolding last_digits
lead zero d h l = absurd (omega arith)
lead (suc n) d h l = subst (λ (k : ℕ). Lead (last_digits k d)) (sym (width-suc n d h)) (go (cases_eq (d / 10) 0) (λ p. lead n (d / 10) p (omega (arith, l, width-suc n d h))))
  where
    go : (d / 10 ≡ 0) ⊎ (d / 10 ≡ 0 → ⊥) → (0 < d / 10 → Lead (last_digits (width n (d / 10)) (d / 10))) → Lead (last_digits (width n (d / 10)) (d / 10) ++ ((48 + d % 10) ∷ []))
    go (inl z) f = record { head = 48 + d % 10; tail = []; is = ap (λ (k : ℕ). last_digits k (d / 10) ++ ((48 + d % 10) ∷ [])) (ap (width n) z ∙ width-zero n); low = omega arith; high = omega arith; rest = refl }
    go (inr z) f = lead-more (last_digits (width n (d / 10)) (d / 10)) (48 + d % 10) (digit-byte d) (f (omega arith))

-- what stands behind the digits before the point
data Behind : List ℕ → Type 0 where
  nothing : Behind []
  places : (c : ℕ) (w : List ℕ) → every is_digit (c ∷ w) ≡ true → Behind (46 ∷ c ∷ w)

behind-point : (w : List ℕ) → Behind w → point w ≡ true
behind-point [] b = refl
behind-point (c ∷ w) b = go c w b
  where
    go : (c : ℕ) (w : List ℕ) → Behind (c ∷ w) → point (c ∷ w) ≡ true
    go c w (places d v e) = e

digits-point : (w : List ℕ) → point w ≡ true → digits w ≡ true
digits-point [] e = refl
digits-point (c ∷ w) e = or-right (is_digit c && digits w) (point (c ∷ w)) e

digits-then : (v w : List ℕ) → every is_digit v ≡ true → digits w ≡ true → digits (v ++ w) ≡ true
digits-then [] w h k = k
digits-then (c ∷ v) w h k = go (is_digit c) refl h (λ q. digits-then v w q k)
  where
    go : (b : Bool) → is_digit c ≡ b → elim b as (λ z. Bool) [ true ↦ every is_digit v | false ↦ false ] ≡ true → (every is_digit v ≡ true → digits (v ++ w) ≡ true) → ((is_digit c && digits (v ++ w)) || point (c ∷ (v ++ w))) ≡ true
    go true e h f = or-left (is_digit c && digits (v ++ w)) (point (c ∷ (v ++ w))) (both (is_digit c) (digits (v ++ w)) e (f h))
    go false e h f = absurd (cc)

lead-number : (v w : List ℕ) → Lead v → Behind w → is_number (v ++ w) ≡ true
lead-number v w l b =
    subst (λ (z : List ℕ). is_number (z ++ w) ≡ true) (sym l.is)
    (or-right (eqb l.head 48 && point (l.tail ++ w)) (between 49 57 l.head && digits (l.tail ++ w)) (both (between 49 57 l.head) (digits (l.tail ++ w)) (in-between 49 57 l.head l.low l.high) (digits-then l.tail w l.rest (digits-point w (behind-point w b)))))

not-nil : (v : List ℕ) (c : ℕ) → v ++ (c ∷ []) ≡ [] → ⊥
not-nil [] c e = cc
not-nil (d ∷ v) c e = cc

not-empty : (p d : ℕ) → (p ≡ 0 → ⊥) → last_digits p d ≡ [] → ⊥
unfolding last_digits
not-empty zero d h e = h refl
not-empty (suc p) d h e = not-nil (last_digits p (d / 10)) (48 + d % 10) e

-- the places, if there are any
behind : (p d : ℕ) → Behind (if eqb p 0 then [] else 46 ∷ last_digits p d)
behind p d = go (eqb p 0) refl
  where
    some : (w : List ℕ) → (w ≡ [] → ⊥) → every is_digit w ≡ true → Behind (46 ∷ w)
    some [] h e = absurd (h refl)
    some (c ∷ w) h e = places c w e

    go : (b : Bool) → eqb p 0 ≡ b → Behind (if b then [] else 46 ∷ last_digits p d)
    go true e = nothing
    go false e = some (last_digits p d) (not-empty p d (eqb-false p 0 e)) (all-digits p d)

-- the digits before the point
zero-digit : last_digits 1 0 ≡ 48 ∷ []
unfolding last_digits
zero-digit = refl

front : (W : ℕ) (w : List ℕ) → Behind w → (if eqb W 0 then 1 else width 400 W) ≤ 25 → is_number (last_digits (if eqb W 0 then 1 else width 400 W) W ++ w) ≡ true
front W w b l = go (eqb W 0) refl l
  where
    go : (x : Bool) → eqb W 0 ≡ x → (if x then 1 else width 400 W) ≤ 25 → is_number (last_digits (if x then 1 else width 400 W) W ++ w) ≡ true
    go true e l = subst (λ (z : ℕ). is_number (last_digits 1 z ++ w) ≡ true) (sym (eqb-true W 0 e)) (subst (λ (v : List ℕ). is_number (v ++ w) ≡ true) (sym zero-digit) (or-left (eqb 48 48 && point w) (between 49 57 48 && digits w) (behind-point w b)))
    go false e l = let z = eqb-false W 0 e in lead-number (last_digits (width 400 W) W) w (lead 400 W (positive W z) (omega (arith, l))) b
      where
        positive : (n : ℕ) → (n ≡ 0 → ⊥) → 0 < n
        positive n h = omega arith

text-number : (x : Decimal) → digit_count x ≤ 25 → is_number (text x) ≡ true
unfolding text
text-number x l = front (x.digits / 10 ^ x.places) (if eqb x.places 0 then [] else 46 ∷ last_digits x.places x.digits) (behind x.places x.digits) (omega (arith, l))

pub number-token : NumberToken
unfolding decimal
number-token b = go (is_plain b) (fewest 25 0 b)
  where
    last : (x : Decimal) (c : Bool) → leb (digit_count x) 25 ≡ c → is_number (given (if c then Some x else None)) ≡ has_text (if c then Some x else None)
    last x true e = text-number x (leb-true (digit_count x) 25 e)
    last x false e = refl

    found : (o : Option Decimal) → is_number (given (elim o as (λ z. Option Decimal) [ Some x ↦ (if leb (digit_count x) 25 then Some x else None) | None ↦ None ])) ≡ has_text (elim o as (λ z. Option Decimal) [ Some x ↦ (if leb (digit_count x) 25 then Some x else None) | None ↦ None ])
    found None = refl
    found (Some x) = last x (leb (digit_count x) 25) refl

    go : (p : Bool) (o : Option Decimal) → is_number (given (if p then elim o as (λ z. Option Decimal) [ Some x ↦ (if leb (digit_count x) 25 then Some x else None) | None ↦ None ] else None)) ≡ has_text (if p then elim o as (λ z. Option Decimal) [ Some x ↦ (if leb (digit_count x) 25 then Some x else None) | None ↦ None ] else None)
    go true o = found o
    go false o = refl

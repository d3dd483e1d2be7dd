-- Ends and texts, by their place. Assumes nothing.
use mathlib.Core.Path.{◌≡◌, refl, sym, ap, ap₂, ◌∙◌}
use mathlib.Core.Bool.{Bool, true, false, ◌&&◌, ◌||◌, not}
use Rattle.std.specs.List.{list_any, list_all, range_with_len}
use mathlib.Core.List.{List, [], ◌∷◌}
use Prim.Native.Nat.{ℕ, zero, suc, ◌+◌, ◌-◌, ◌*◌, ◌≤◌, ◌<◌}
use native.Mathlib.Nat.{le_of_suc-le-suc, not-suc-le-zero, sub-zero}
use native.Mathlib.Numerals.{add-one}
use native.Mathlib.Omega.{arith}
use borrow.Author.Tests.{le-leb, lt-leb}
use lib.Pointwise.{pointwise}
use lib.Dec.{eqb, eqb→eq, leb, leb→le}
use lib.ListN.{length, get_or, drop, take, drop_of_length-le}
use lib.Seq.{drop-cons, drop-drop, get_or-drop}
use Rattle.def_file.specs.Script.{same_text}
use Rattle.def_file.specs.Read.{number, u32, ends_from, texts_from, rising, any_text, distinct}
use Rattle.file_read.specs.declared.texts.Texts.{Texts}
use Rattle.file_read.specs.Text.{part, start_of, text_in, texts_of, Placed, hash_of}
use Rattle.def_tree.proofs.Tests.{is_T, is_true, and_left, and_right}

-- what `==` on slices says
pub same_pointwise : (a b : List ℕ) → pointwise eqb a b ≡ same_text a b
same_pointwise [] [] = refl
same_pointwise [] (y ∷ b) = refl
same_pointwise (x ∷ a) [] = refl
same_pointwise (x ∷ a) (y ∷ b) = ap (λ (c : Bool). eqb x y && c) (same_pointwise a b)

-- texts whose hashes differ are not the same
same-is : (a b : List ℕ) → same_text a b ≡ true → a ≡ b
same-is [] [] e = refl
same-is [] (y ∷ b) e = absurd (is_T false e)
same-is (x ∷ a) [] e = absurd (is_T false e)
same-is (x ∷ a) (y ∷ b) e =
    let t = is_T (eqb x y && same_text a b) e in
    ap₂ {C = List ℕ} (λ (z : ℕ) (zs : List ℕ). z ∷ zs) (eqb→eq x y (and_left (eqb x y) (same_text a b) t)) (same-is a b (is_true (same_text a b) (and_right (eqb x y) (same_text a b) t)))

no_true : (c : Bool) → (c ≡ true → ⊥) → false ≡ c
no_true true h = absurd (h refl)
no_true false h = refl

pub apart : (a b : List ℕ) → (hash_of a ≡ hash_of b → ⊥) → false ≡ same_text a b
apart a b h = no_true (same_text a b) (λ e. h (ap hash_of (same-is a b e)))

-- the ends
pub ends-length : (t : ℕ) (bs : List ℕ) → length (ends_from t bs) ≡ t
unfolding ends_from
ends-length zero bs = refl
ends-length (suc t) bs = ap suc (ends-length t (drop 4 bs))

pub ends_at : (t k : ℕ) (bs : List ℕ) → k < t → get_or (ends_from t bs) k 0 ≡ number 4 (drop (4 * k) bs)
unfolding ends_from
ends_at zero k bs h = absurd (not-suc-le-zero h)
ends_at (suc t) zero bs h = refl
ends_at (suc t) (suc k) bs h = ends_at t k (drop 4 bs) (le_of_suc-le-suc h) ∙ ap (number 4) (drop-drop (4 * k) 4 bs ∙ ap (λ (m : ℕ). drop m bs) (next k))
  where
    next : (k : ℕ) → 4 + 4 * k ≡ 4 * suc k
    next k = omega arith

pub end-raw : (t k ends : ℕ) (bs : List ℕ) → k < t → get_or (ends_from t (drop ends bs)) k 0 ≡ u32 bs (ends + 4 * k)
end-raw t k ends bs h = ends_at t k (drop ends bs) h ∙ ap (number 4) (drop-drop (4 * k) ends bs)

-- rising, from end k on
module _ (es : List ℕ) (at n k : ℕ) (h : k < length es) where
  pub rising_step : at ≤ get_or es k 0 → rising at (drop k es) n ≡ rising (get_or es k 0) (drop (k + 1) es) n
  unfolding rising
  rising_step l = rw (drop-cons es k 0 h, le-leb at (get_or es k 0) l, add-one) refl

  pub rising-falls : get_or es k 0 < at → rising at (drop k es) n ≡ false
  unfolding rising
  rising-falls l = rw (drop-cons es k 0 h, lt-leb at (get_or es k 0) l) refl

pub rising-end : (es : List ℕ) (at n k : ℕ) → length es ≤ k → rising at (drop k es) n ≡ eqb at n
unfolding rising
rising-end es at n k h = rw (drop_of_length-le es h) refl

-- where the k-th text begins, if the first begins at `at`
prev : ℕ → List ℕ → ℕ → ℕ
prev at es zero = at
prev at es (suc k) = get_or es k 0

prev-cons : (at e : ℕ) (es : List ℕ) (k : ℕ) → prev e es k ≡ prev at (e ∷ es) (suc k)
unfolding prev
prev-cons at e es zero = refl
prev-cons at e es (suc k) = refl

-- ends that never fall: what begins after `at` and ends before n
record Between (at n : ℕ) (es : List ℕ) (k : ℕ) : Type 0 where
  low : at ≤ prev at es k
  high : prev at es k ≤ n

between : (at n : ℕ) (es : List ℕ) (k : ℕ) → k ≤ length es → rising at es n ≡ true → Between at n es k
unfolding rising prev
between at n [] zero h r = record { low = omega arith; high = omega (arith, eqb→eq at n (is_T (eqb at n) r)) }
between at n [] (suc k) h r = absurd (not-suc-le-zero h)
between at n (e ∷ es) zero h r =
    let l = leb→le at e (and_left (leb at e) (rising e es n) (is_T (leb at e && rising e es n) r)) in
    let b = between e n es zero (omega arith) (is_true (rising e es n) (and_right (leb at e) (rising e es n) (is_T (leb at e && rising e es n) r))) in
    record { low = omega arith; high = omega (arith, b.high) }
between at n (e ∷ es) (suc k) h r =
    let l = leb→le at e (and_left (leb at e) (rising e es n) (is_T (leb at e && rising e es n) r)) in
    let b = between e n es k (le_of_suc-le-suc h) (is_true (rising e es n) (and_right (leb at e) (rising e es n) (is_T (leb at e && rising e es n) r))) in
    record { low = rw (sym (prev-cons at e es k)) (omega (arith, b.low)); high = rw (sym (prev-cons at e es k)) b.high }

texts-drop : (at n : ℕ) (es body : List ℕ) (k : ℕ) → k ≤ length es → rising at es n ≡ true
    → drop k (texts_from at es body) ≡ texts_from (prev at es k) (drop k es) (drop (prev at es k - at) body)
unfolding rising texts_from prev
texts-drop at n es body zero h r = ap (λ (m : ℕ). texts_from at es (drop m body)) (zero_is at)
  where
    zero_is : (at : ℕ) → 0 ≡ at - at
    zero_is at = omega arith
texts-drop at n [] body (suc k) h r = absurd (not-suc-le-zero h)
texts-drop at n (e ∷ es) body (suc k) h r =
    let l = leb→le at e (and_left (leb at e) (rising e es n) (is_T (leb at e && rising e es n) r)) in
    let r₁ = is_true (rising e es n) (and_right (leb at e) (rising e es n) (is_T (leb at e && rising e es n) r)) in
    let b = between e n es k (le_of_suc-le-suc h) r₁ in
    let m : e - at + (prev e es k - e) ≡ prev e es k - at = omega (arith, b.low) in
    texts-drop e n es (drop (e - at) body) k (le_of_suc-le-suc h) r₁
    ∙ ap (λ (xs : List ℕ). texts_from (prev e es k) (drop k es) xs) (drop-drop (prev e es k - e) (e - at) body ∙ ap (λ (j : ℕ). drop j body) m)
    ∙ ap (λ (p : ℕ). texts_from p (drop k es) (drop (p - at) body)) (prev-cons at e es k)

texts-length : (at : ℕ) (es body : List ℕ) → length (texts_from at es body) ≡ length es
unfolding texts_from
texts-length at [] body = refl
texts-length at (e ∷ es) body = ap suc (texts-length e es (drop (e - at) body))

first-text : (p e : ℕ) (es xs : List ℕ) → get_or (texts_from p (e ∷ es) xs) 0 [] ≡ take (e - p) xs
unfolding texts_from
first-text p e es xs = refl

start_is : (bs : List ℕ) (ends t k : ℕ) → k ≤ t → start_of bs ends k ≡ prev 0 (ends_from t (drop ends bs)) k
unfolding prev
start_is bs ends t zero h = refl
start_is bs ends t (suc k) h = sym (end-raw t k ends bs (omega arith))

part-is : (bs : List ℕ) (from p e : ℕ) → p ≤ e → from + e ≤ length bs → part bs (from + p) (from + e) ≡ take (e - p) (drop p (drop from bs))
part-is bs from p e h l =
    let m : from + e - (from + p) ≡ e - p = omega arith in
    rw (le-leb (from + p) (from + e) (omega arith), le-leb (from + e) (length bs) l, m, drop-drop) refl

module _ {bs : List ℕ} {at : Texts} (P : Placed bs at) where
  abbrev ends : ℕ
  ends = at.ends

  abbrev from : ℕ
  from = at.bytes

  abbrev t : ℕ
  t = at.count

  abbrev es : List ℕ
  es = ends_from t (drop ends bs)

  pub count-texts : length (texts_of bs at) ≡ t
  count-texts = texts-length 0 es (drop from bs) ∙ ends-length t (drop ends bs)

  pub text-is : (k : ℕ) → k < t → get_or (texts_of bs at) k [] ≡ text_in bs ends from k
  unfolding text_in prev rising
  text-is k h =
      let n = length bs - from in
      let len = ends-length t (drop ends bs) in
      let l : k ≤ length es = omega (arith, len) in
      let b = between 0 n es k l P.rises in
      let b₁ = between 0 n es (suc k) (omega (arith, len)) P.rises in
      let lo : prev 0 es k ≤ get_or es k 0 = rise-at 0 n es k (omega (arith, len)) P.rises in
      ap (λ (m : ℕ). get_or (texts_of bs at) m []) (plus k) ∙ sym (get_or-drop k (texts_of bs at) 0 [])
      ∙ ap (λ (xs : List (List ℕ)). get_or xs 0 []) (texts-drop 0 n es (drop from bs) k l P.rises)
      ∙ ap (λ (ys : List ℕ). get_or (texts_from (prev 0 es k) ys (drop (prev 0 es k - 0) (drop from bs))) 0 []) (drop-cons es k 0 (omega (arith, len)))
      ∙ first-text (prev 0 es k) (get_or es k 0) (drop (suc k) es) (drop (prev 0 es k - 0) (drop from bs))
      ∙ ap (λ (m : ℕ). take (get_or es k 0 - prev 0 es k) (drop m (drop from bs))) (sub-zero (prev 0 es k))
      ∙ sym (part-is bs from (prev 0 es k) (get_or es k 0) lo (omega (arith, b₁.high, P.size)))
      ∙ ap₂ {C = List ℕ} (λ (x y : ℕ). part bs (from + x) (from + y)) (sym (start_is bs ends t k (omega arith))) (end-raw t k ends bs h)
    where
      plus : (k : ℕ) → k ≡ k + 0
      plus k = omega arith

      rise-at : (at n : ℕ) (es : List ℕ) (k : ℕ) → k < length es → rising at es n ≡ true → prev at es k ≤ get_or es k 0
      rise-at at n [] k h r = absurd (not-suc-le-zero h)
      rise-at at n (e ∷ es) zero h r = (between at n (e ∷ es) (suc zero) (omega arith) r).low
      rise-at at n (e ∷ es) (suc k) h r = rw (sym (prev-cons at e es k)) (rise-at e n es k (le_of_suc-le-suc h) (rest at e es r))
        where
          rest : (at e : ℕ) (es : List ℕ) → rising at (e ∷ es) n ≡ true → rising e es n ≡ true
          rest at e es r = is_true (rising e es n) (and_right (leb at e) (rising e es n) (is_T (leb at e && rising e es n) r))

  pub text-cons : (k : ℕ) → k < t → drop k (texts_of bs at) ≡ text_in bs ends from k ∷ drop (k + 1) (texts_of bs at)
  text-cons k h = drop-cons (texts_of bs at) k [] (omega (arith, count-texts)) ∙ ap₂ {C = List (List ℕ)} (λ x xs. x ∷ xs) (text-is k h) (ap (λ (m : ℕ). drop m (texts_of bs at)) (sym (add-one k)))

-- looking for a text, and for two texts that are equal, from place k on
module _ {u : List ℕ} {us ts : List (List ℕ)} (e : ts ≡ u ∷ us) where
  any-next : (x : List ℕ) → any_text x ts ≡ (same_text x u || any_text x us)
  unfolding any_text
  any-next x = rw e refl

  distinct-next : distinct ts ≡ (not (any_text u us) && distinct us)
  unfolding distinct
  distinct-next = rw e refl

any-end : (x : List ℕ) (ts : List (List ℕ)) (k : ℕ) → length ts ≤ k → any_text x (drop k ts) ≡ false
unfolding any_text
any-end x ts k h = rw (drop_of_length-le ts h) refl

distinct-end : (ts : List (List ℕ)) (k : ℕ) → length ts ≤ k → distinct (drop k ts) ≡ true
unfolding distinct
distinct-end ts k h = rw (drop_of_length-le ts h) refl

-- the texts from k on, by their numbers
module _ {bs : List ℕ} {at : Texts} (P : Placed bs at) where
  pub any-range : (x : List ℕ) (k n : ℕ) → k + n ≡ at.count → list_any (λ j. same_text x (text_in bs at.ends at.bytes j)) (range_with_len k n) ≡ any_text x (drop k (texts_of bs at))
  any-range x k zero e = sym (any-end x (texts_of bs at) k (omega (arith, count-texts P)))
  any-range x k (suc n) e =
      let h = any-range x (k + 1) n (omega arith) in
      ap {B = Bool} (λ (b : Bool). same_text x (text_in bs at.ends at.bytes k) || b) h ∙ sym (any-next (text-cons P k (omega arith)) x)

  pub all-range : (k n : ℕ) → k + n ≡ at.count → list_all (λ i. not (any_text (text_in bs at.ends at.bytes i) (drop (i + 1) (texts_of bs at)))) (range_with_len k n) ≡ distinct (drop k (texts_of bs at))
  all-range k zero e = sym (distinct-end (texts_of bs at) k (omega (arith, count-texts P)))
  all-range k (suc n) e = ap {B = Bool} (λ (b : Bool). not (any_text (text_in bs at.ends at.bytes k) (drop (k + 1) (texts_of bs at))) && b) (all-range (k + 1) n (omega arith)) ∙ sym (distinct-next (text-cons P k (omega arith)))

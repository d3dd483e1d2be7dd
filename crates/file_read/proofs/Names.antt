-- Identifiers and the list of them in the words. Assumes nothing.
use mathlib.Core.Path.{◌≡◌, refl, ap, ap₂, ◌∙◌, subst}
use mathlib.Core.Bool.{Bool, true, false, ◌&&◌, ◌||◌}
use mathlib.Core.List.{List, [], ◌∷◌, ◌++◌}
use mathlib.Core.Logic.{◌⊎◌, inl, inr, ⊎_elim}
use Prim.Native.Nat.{ℕ, zero, suc, ◌+◌, ◌≤◌, ◌<◌}
use native.Mathlib.Nat.{eq-or-lt_of_le}
use native.Mathlib.Numerals.{add-one}
use native.Mathlib.Omega.{arith}
use borrow.Author.Tests.{ne_eqb}
use lib.Dec.{T, eqb, eqb_refl}
use lib.ListN.{length, get_or, drop, set, length-set}
use lib.Seq.{drop-cons, get_or-set_same, get_or-set_other}
use Rattle.def_tree.specs.Base.{pick}
use Rattle.words.specs.Tab.{same_or_not, tab, tab-suc, tab-ext, length-tab, get_d-tab}
use Rattle.def_file.specs.declared.Raw.{Raw}
use Rattle.def_file.specs.Script.{zero_node, has_id, same_id, known, enter, place_of}
use Rattle.file_read.specs.Idents.{numbered, ids_of, Listed, Texted, FirstSet}
use Rattle.def_tree.proofs.Tests.{is_true}

pub same_refl : (x : Raw) → same_id x x ≡ true
same_refl x = rw (is_true (eqb x.text x.text) (eqb_refl x.text), is_true (eqb x.bits x.bits) (eqb_refl x.bits)) refl

-- the search, from place j on
module _ (x : Raw) (ids : List Raw) (j : ℕ) where
  pub place-hit : j < length ids → same_id x (get_or ids j zero_node) ≡ true → place_of x (drop j ids) ≡ 0
  place-hit h e = rw (drop-cons ids j zero_node h) (ap {B = ℕ} (λ (b : Bool). elim b [ true ↦ 0 | false ↦ suc (place_of x (drop (suc j) ids)) ]) e)

  pub place-miss : j < length ids → same_id x (get_or ids j zero_node) ≡ false → place_of x (drop j ids) ≡ suc (place_of x (drop (j + 1) ids))
  place-miss h e = rw (drop-cons ids j zero_node h, add-one) (ap {B = ℕ} (λ (b : Bool). elim b [ true ↦ 0 | false ↦ suc (place_of x (drop (suc j) ids)) ]) e)

-- the search may begin at place j where none before it has the identifier
pub place-skip : (x : Raw) (ids : List Raw) (j : ℕ) → j ≤ length ids → ((i : ℕ) → i < j → same_id x (get_or ids i zero_node) ≡ false) → place_of x ids ≡ j + place_of x (drop j ids)
place-skip x ids zero h o = omega arith
place-skip x ids (suc j) h o =
    let miss : place_of x (drop j ids) ≡ suc (place_of x (drop (suc j) ids)) = rw add-one at (place-miss x ids j h (o j (omega arith))) in
    omega (arith, place-skip x ids j (omega arith) (λ i l. o i (omega arith)))

-- a place below the length is that of a known identifier
known-cases : (x : Raw) (ids : List Raw) → ((place_of x ids < length ids) × (known x ids ≡ true)) ⊎ ((place_of x ids ≡ length ids) × (known x ids ≡ false))
known-cases x [] = inr (refl, refl)
known-cases x (y ∷ ys) = go (same_id x y) refl (known-cases x ys)
  where
    go : (b : Bool) → same_id x y ≡ b → ((place_of x ys < length ys) × (known x ys ≡ true)) ⊎ ((place_of x ys ≡ length ys) × (known x ys ≡ false))
        → ((elim b [ true ↦ 0 | false ↦ suc (place_of x ys) ] < suc (length ys)) × ((b || known x ys) ≡ true)) ⊎ ((elim b [ true ↦ 0 | false ↦ suc (place_of x ys) ] ≡ suc (length ys)) × ((b || known x ys) ≡ false))
    go true e r = inl (omega arith, refl)
    go false e (inl r) = inl (omega (arith, r.0), r.1)
    go false e (inr r) = inr (ap suc r.0, r.1)

pub known-yes : (x : Raw) (ids : List Raw) → place_of x ids < length ids → known x ids ≡ true
known-yes x ids h = go (known-cases x ids)
  where
    go : ((place_of x ids < length ids) × (known x ids ≡ true)) ⊎ ((place_of x ids ≡ length ids) × (known x ids ≡ false)) → known x ids ≡ true
    go (inl r) = r.1
    go (inr r) = absurd (omega (arith, r.0))

pub known-no : (x : Raw) (ids : List Raw) → length ids ≤ place_of x ids → known x ids ≡ false
known-no x ids h = go (known-cases x ids)
  where
    go : ((place_of x ids < length ids) × (known x ids ≡ true)) ⊎ ((place_of x ids ≡ length ids) × (known x ids ≡ false)) → known x ids ≡ false
    go (inl r) = absurd (omega (arith, r.0))
    go (inr r) = r.1

-- entering
pub enter-old : (ids : List Raw) (x : Raw) → known x ids ≡ true → enter ids x ≡ ids
enter-old ids x e = rw e (go (has_id x))
  where
    go : (b : Bool) → pick (b && false) (ids ++ (x ∷ [])) ids ≡ ids
    go true = refl
    go false = refl

pub enter-new : (ids : List Raw) (x : Raw) → has_id x ≡ true → known x ids ≡ false → enter ids x ≡ ids ++ (x ∷ [])
enter-new ids x e q = rw (e, q) refl

pub place-new : (x : Raw) (ids : List Raw) → known x ids ≡ false → place_of x (ids ++ (x ∷ [])) ≡ length ids
place-new x [] h = ap {B = ℕ} (λ (b : Bool). elim b [ true ↦ 0 | false ↦ 1 ]) (same_refl x)
place-new x (y ∷ ys) h = go (same_id x y) refl h (place-new x ys)
  where
    go : (b : Bool) → same_id x y ≡ b → (b || known x ys) ≡ false → (known x ys ≡ false → place_of x (ys ++ (x ∷ [])) ≡ length ys) → elim b [ true ↦ 0 | false ↦ suc (place_of x (ys ++ (x ∷ []))) ] ≡ suc (length ys)
    go true e q k = absurd (let z : T false = subst T q tt in z)
    go false e q k = ap suc (k q)

-- the list in the words
module _ (bs w : List ℕ) where
  pub ids-length : length (ids_of bs w) ≡ get_or w 4 0
  unfolding ids_of
  ids-length = length-tab (get_or w 4 0) (λ i. numbered bs (get_or w (15504 + i) 0))

  pub ids_at : (i : ℕ) → i < get_or w 4 0 → get_or (ids_of bs w) i zero_node ≡ numbered bs (get_or w (15504 + i) 0)
  unfolding ids_of
  ids_at i h = get_d-tab (get_or w 4 0) (λ i. numbered bs (get_or w (15504 + i) 0)) i zero_node h

-- it is as it was where its words are kept
pub ids-same : (bs w w' : List ℕ) → get_or w' 4 0 ≡ get_or w 4 0 → ((i : ℕ) → i < get_or w 4 0 → get_or w' (15504 + i) 0 ≡ get_or w (15504 + i) 0) → ids_of bs w' ≡ ids_of bs w
unfolding ids_of
ids-same bs w w' e h = rw e (tab-ext (get_or w 4 0) (λ i. numbered bs (get_or w' (15504 + i) 0)) (λ i. numbered bs (get_or w (15504 + i) 0)) (λ i l. ap (numbered bs) (h i l)))

pub listed_same : (w w' : List ℕ) (n : ℕ) → length w' ≡ length w → get_or w' 4 0 ≡ get_or w 4 0 → ((i : ℕ) → i < get_or w 4 0 → get_or w' (15504 + i) 0 ≡ get_or w (15504 + i) 0) → Listed w n → Listed w' n
listed_same w w' n z e h L = record {
  long = rw z L.long;
  few = rw e L.few;
  low = λ i l. let q : i < get_or w 4 0 = rw e at l in rw (h i q) (L.low i q);
  high = λ i l. let q : i < get_or w 4 0 = rw e at l in rw (h i q) (L.high i q);
}

-- and the words of the texts where they are kept too
pub texted-same : (bs w w' : List ℕ) → get_or w' 4 0 ≡ get_or w 4 0 → ((j : ℕ) → 15504 ≤ j → get_or w' j 0 ≡ get_or w j 0) → Texted bs w → Texted bs w'
texted-same bs w w' e h X = record {
  some = λ i l. rw (h (15504 + i) (omega arith), h (15760 + (numbered bs (get_or w (15504 + i) 0)).text) (omega arith)) (X.some i (rw e at l));
  first = λ i l. rw (h (15504 + i) (omega arith), h (15760 + (numbered bs (get_or w (15504 + i) 0)).text) (omega arith)) (X.first i (rw e at l));
  high = λ t l. rw (h (15760 + t) (omega arith), e) (X.high t l);
}

-- identifier i has another text than x where the word of x's text is 0 or above i + 1
pub text-other : {bs w : List ℕ} → Texted bs w → (x : Raw) (i : ℕ) → i < get_or w 4 0 → (get_or w (15760 + x.text) 0 ≡ 0) ⊎ (i + 1 < get_or w (15760 + x.text) 0) → same_id x (numbered bs (get_or w (15504 + i) 0)) ≡ false
text-other {bs} {w} X x i l h =
    let y = numbered bs (get_or w (15504 + i) 0) in
    ap {B = Bool} (λ (c : Bool). c && eqb x.bits y.bits) (ne_eqb x.text y.text (λ e. ⊎_elim (λ (z : get_or w (15760 + x.text) 0 ≡ 0). omega (arith, X.some i l, rw e at z)) (λ (z : i + 1 < get_or w (15760 + x.text) 0). omega (arith, X.first i l, rw e at z)) h))

-- so the search for x begins at that word, or finds nothing
module _ {bs w : List ℕ} (X : Texted bs w) (x : Raw) where
  pub first-none : get_or w (15760 + x.text) 0 ≡ 0 → known x (ids_of bs w) ≡ false
  first-none z =
      let ids = ids_of bs w in
      let len = ids-length bs w in
      let none : (i : ℕ) → i < length ids → same_id x (get_or ids i zero_node) ≡ false = λ i l. let h : i < get_or w 4 0 = omega arith in ap (same_id x) (ids_at bs w i h) ∙ text-other X x i h (inl z) in
      known-no x ids (omega (arith, place-skip x ids (length ids) (omega arith) none))

  pub first-from : (j : ℕ) → x.text < 256 → j + 1 ≡ get_or w (15760 + x.text) 0 → place_of x (ids_of bs w) ≡ j + place_of x (drop j (ids_of bs w))
  first-from j small e =
      let ids = ids_of bs w in
      let len = ids-length bs w in
      let high = X.high x.text small in
      place-skip x ids j (omega arith) (λ i l. let h : i < get_or w 4 0 = omega arith in ap (same_id x) (ids_at bs w i h) ∙ text-other X x i h (inr (omega arith)))

-- the list where the word of a text is set
module _ {w w' : List ℕ} {t v : ℕ} (F : FirstSet w w' t v) where
  pub first_count : get_or w' 4 0 ≡ get_or w 4 0
  first_count = F.other 4 (λ e. omega (arith, e))

  pub first-list : (i : ℕ) → i < 256 → get_or w' (15504 + i) 0 ≡ get_or w (15504 + i) 0
  first-list i h = F.other (15504 + i) (λ e. omega (arith, e))

-- one more: word 15504 + count is m, and the count is one more
module _ (bs w : List ℕ) (n m : ℕ) (L : Listed w n) (room : get_or w 4 0 < 256) where
  pub more-size : length (set (set w (15504 + get_or w 4 0) m) 4 (get_or w 4 0 + 1)) ≡ length w
  more-size = simp length-set

  pub more-other : (j : ℕ) → (j ≡ 4 → ⊥) → (j ≡ 15504 + get_or w 4 0 → ⊥) → get_or (set (set w (15504 + get_or w 4 0) m) 4 (get_or w 4 0 + 1)) j 0 ≡ get_or w j 0
  more-other j p q = get_or-set_other (set w (15504 + get_or w 4 0) m) 4 j (get_or w 4 0 + 1) 0 p ∙ get_or-set_other w (15504 + get_or w 4 0) j m 0 q

  pub more-count : get_or (set (set w (15504 + get_or w 4 0) m) 4 (get_or w 4 0 + 1)) 4 0 ≡ get_or w 4 0 + 1
  more-count = get_or-set_same (set w (15504 + get_or w 4 0) m) 4 (get_or w 4 0 + 1) 0 (simp length-set (omega (arith, L.long)))

  pub more-last : get_or (set (set w (15504 + get_or w 4 0) m) 4 (get_or w 4 0 + 1)) (15504 + get_or w 4 0) 0 ≡ m
  more-last = get_or-set_other (set w (15504 + get_or w 4 0) m) 4 (15504 + get_or w 4 0) (get_or w 4 0 + 1) 0 (λ e. omega (arith, e)) ∙ get_or-set_same w (15504 + get_or w 4 0) m 0 (omega (arith, L.long))

  pub more-ids : ids_of bs (set (set w (15504 + get_or w 4 0) m) 4 (get_or w 4 0 + 1)) ≡ ids_of bs w ++ (numbered bs m ∷ [])
  unfolding ids_of
  more-ids =
      ap (λ (k : ℕ). tab k (λ i. numbered bs (get_or (set (set w (15504 + get_or w 4 0) m) 4 (get_or w 4 0 + 1)) (15504 + i) 0))) more-count
      ∙ tab-suc (get_or w 4 0) (λ i. numbered bs (get_or (set (set w (15504 + get_or w 4 0) m) 4 (get_or w 4 0 + 1)) (15504 + i) 0))
      ∙ ap₂ {C = List Raw} (λ xs y. xs ++ (y ∷ []))
      (tab-ext (get_or w 4 0) (λ i. numbered bs (get_or (set (set w (15504 + get_or w 4 0) m) 4 (get_or w 4 0 + 1)) (15504 + i) 0)) (λ i. numbered bs (get_or w (15504 + i) 0)) (λ i l. ap (numbered bs) (more-other (15504 + i) (λ e. omega (arith, e)) (λ e. omega (arith, e)))))
      (ap (numbered bs) more-last)

  pub more-listed : 0 < m → m ≤ n → Listed (set (set w (15504 + get_or w 4 0) m) 4 (get_or w 4 0 + 1)) n
  more-listed p q = record {
    long = rw more-size L.long;
    few = rw more-count (omega arith);
    low = λ i l. ⊎_elim (λ (e : i ≡ get_or w 4 0). rw (e, more-last) p) (λ (h : i < get_or w 4 0). rw (more-other (15504 + i) (λ e. omega (arith, e)) (λ e. omega (arith, e))) (L.low i h)) (cases i l);
    high = λ i l. ⊎_elim (λ (e : i ≡ get_or w 4 0). rw (e, more-last) q) (λ (h : i < get_or w 4 0). rw (more-other (15504 + i) (λ e. omega (arith, e)) (λ e. omega (arith, e))) (L.high i h)) (cases i l);
  }
    where
      cases : (i : ℕ) → i < get_or (set (set w (15504 + get_or w 4 0) m) 4 (get_or w 4 0 + 1)) 4 0 → (i ≡ get_or w 4 0) ⊎ (i < get_or w 4 0)
      cases i l = eq-or-lt_of_le (omega (arith, more-count))

  -- and the word of its text is set where it was 0
  pub more-texted : {w₂ : List ℕ} {t : ℕ} → t < 256 → (numbered bs m).text ≡ t → Texted bs w → FirstSet (set (set w (15504 + get_or w 4 0) m) 4 (get_or w 4 0 + 1)) w₂ t (get_or w 4 0 + 1) → Texted bs w₂
  more-texted {w₂} {t} small q X F = record {
    some = λ i l. ⊎_elim (λ (e : i ≡ get_or w 4 0). rw (e, last, q) here.0) (λ (h : i < get_or w 4 0). rw (listed i h, kept (text i) (X.some i h)) (X.some i h)) (cases i l);
    first = λ i l. ⊎_elim (λ (e : i ≡ get_or w 4 0). rw (e, last, q) here.1) (λ (h : i < get_or w 4 0). rw (listed i h, kept (text i) (X.some i h)) (X.first i h)) (cases i l);
    high = λ s l. rw count (⊎_elim (λ (e : s ≡ t). rw e here.1) (λ (d : s ≡ t → ⊥). omega (arith, X.high s l, other s d)) (same_or_not s t));
  }
    where
      count : get_or w₂ 4 0 ≡ get_or w 4 0 + 1
      count = first_count F ∙ more-count

      cases : (i : ℕ) → i < get_or w₂ 4 0 → (i ≡ get_or w 4 0) ⊎ (i < get_or w 4 0)
      cases i l = eq-or-lt_of_le (omega (arith, count))

      text : ℕ → ℕ
      text i = (numbered bs (get_or w (15504 + i) 0)).text

      listed : (i : ℕ) → i < get_or w 4 0 → get_or w₂ (15504 + i) 0 ≡ get_or w (15504 + i) 0
      listed i h = first-list F i (omega arith) ∙ more-other (15504 + i) (λ e. omega (arith, e)) (λ e. omega (arith, e))

      last : get_or w₂ (15504 + get_or w 4 0) 0 ≡ m
      last = first-list F (get_or w 4 0) room ∙ more-last

      before : (s : ℕ) → get_or (set (set w (15504 + get_or w 4 0) m) 4 (get_or w 4 0 + 1)) (15760 + s) 0 ≡ get_or w (15760 + s) 0
      before s = more-other (15760 + s) (λ e. omega (arith, e)) (λ e. omega (arith, e))

      other : (s : ℕ) → (s ≡ t → ⊥) → get_or w₂ (15760 + s) 0 ≡ get_or w (15760 + s) 0
      other s d = F.other (15760 + s) (λ e. d (omega (arith, e))) ∙ before s

      kept : (s : ℕ) → 0 < get_or w (15760 + s) 0 → get_or w₂ (15760 + s) 0 ≡ get_or w (15760 + s) 0
      kept s h = ⊎_elim (λ (e : s ≡ t). rw e (F.old (rw (before t, ← e) h) ∙ before t)) (other s) (same_or_not s t)

      here : (0 < get_or w₂ (15760 + t) 0) × (get_or w₂ (15760 + t) 0 ≤ get_or w 4 0 + 1)
      here =
          ⊎_elim
          (λ (z : get_or w (15760 + t) 0 ≡ 0). let n = F.new (before t ∙ z) in (omega (arith, n), omega (arith, n)))
          (λ (z : get_or w (15760 + t) 0 ≡ 0 → ⊥). let h : 0 < get_or w (15760 + t) 0 = omega (arith, z) in (omega (arith, kept t h), omega (arith, kept t h, X.high t small)))
          (same_or_not (get_or w (15760 + t) 0) 0)

-- two nodes have one identifier, by the fields of theirs
pub same_as : (x y : Raw) {p q r s : ℕ} → p ≡ x.text → q ≡ x.bits → r ≡ y.text → s ≡ y.bits → same_id x y ≡ (eqb p r && eqb q s)
same_as x y e f g h = rw (e, f, g, h) refl

-- A list given by its elements, and the laws by which a store into the words shows in it. Assumes nothing.
use Rattle.std.specs.Prelude.{◌≡◌, ◌⊎◌, length, get_or, set, take, Bool, true, false, eqb, ltb}
use Rattle.std.proofs.Math.Path.{refl}
use Rattle.std.proofs.Common.{sym, ◌∙◌, inl, inr, eq-or-lt_of_le, arith, length-take, length-append, length-set, get_or-set_same, get_or-set_other, ext_get_or, get_or-take, eqb-true, ltb-true, ltb-false}
use mathlib.Core.List.{List, [], ◌∷◌, ◌++◌}
use Rattle.std.proofs.Math.Logic.{⊎_elim}
use Prim.Native.Nat.{ℕ, zero, suc, ◌+◌, ◌≤◌, ◌<◌, min}
use Rattle.std.proofs.Math.Numerals.{add-one}
use Rattle.std.proofs.Math.ListN.{get_or-append, get_or-eq_default}
use Rattle.std.proofs.lemmas.List.{get_or_at}
use Rattle.std.proofs.lemmas.Bool.{eqb-false}

-- the list of f 0, .., f (n - 1)
unfoldable pub tab : {A : Type 0} → ℕ → (ℕ → A) → List A
tab zero f = []
tab (suc n) f = tab n f ++ (f n ∷ [])

same_by : (j k : ℕ) (b : Bool) → eqb j k ≡ b → (j ≡ k) ⊎ (j ≡ k → ⊥)
same_by j k true e = inl (eqb-true j k e)
same_by j k false e = inr (eqb-false j k e)

pub same_or_not : (j k : ℕ) → (j ≡ k) ⊎ (j ≡ k → ⊥)
same_or_not j k = same_by j k (eqb j k) refl

below_by : (j k : ℕ) (b : Bool) → ltb j k ≡ b → (j < k) ⊎ (k ≤ j)
below_by j k true e = inl (ltb-true j k e)
below_by j k false e = inr (ltb-false j k e)

pub below_or_not : (j k : ℕ) → (j < k) ⊎ (k ≤ j)
below_or_not j k = below_by j k (ltb j k) refl

module _ {A : Type 0} where
  pub tab-zero : (f : ℕ → A) → tab 0 f ≡ []
  unfolding tab
  tab-zero f = refl

  pub tab-suc : (n : ℕ) (f : ℕ → A) → tab (n + 1) f ≡ tab n f ++ (f n ∷ [])
  unfolding tab
  tab-suc n f = rw add-one refl

  pub length-tab : (n : ℕ) (f : ℕ → A) → length (tab n f) ≡ n
  unfolding tab
  length-tab zero f = refl
  length-tab (suc n) f = simp (length-append, length-tab n f) (omega arith)

  pub get_d-tab : (n : ℕ) (f : ℕ → A) (k : ℕ) (d : A) → k < n → get_or (tab n f) k d ≡ f k
  unfolding tab
  get_d-tab zero f k d h = absurd (omega arith)
  get_d-tab (suc n) f k d h =
      ⊎_elim
      (λ (e : k ≡ n). rw e (get_or_at (tab n f) (f n) [] d n (length-tab n f)))
      (λ (l : k < n). get_or-append (tab n f) (f n ∷ []) d k (rw length-tab l) ∙ get_d-tab n f k d l)
      (eq-or-lt_of_le (omega arith))

  pub get_d-tab-out : (n : ℕ) (f : ℕ → A) (k : ℕ) (d : A) → n ≤ k → get_or (tab n f) k d ≡ d
  get_d-tab-out n f k d h = get_or-eq_default (tab n f) d (rw length-tab h)

  pub tab-ext : (n : ℕ) (f g : ℕ → A) → ((k : ℕ) → k < n → f k ≡ g k) → tab n f ≡ tab n g
  unfolding tab
  tab-ext zero f g h = refl
  tab-ext (suc n) f g h = rw (tab-ext n f g (λ k l. h k (omega arith)), h n (omega arith)) refl

  -- g is f with v at k
  pub set-tab : (n : ℕ) (f g : ℕ → A) (k : ℕ) (v : A) → k < n → g k ≡ v → ((j : ℕ) → j < n → (j ≡ k → ⊥) → g j ≡ f j) → tab n g ≡ set (tab n f) k v
  set-tab n f g k v h e o =
      ext_get_or (f 0) (tab n g) (set (tab n f) k v) (simp (length-set, length-tab))
      (λ j l. let m : j < n = rw length-tab at l in
      ⊎_elim
      (λ (q : j ≡ k). rw q (get_d-tab n g k (f 0) h ∙ e ∙ sym (get_or-set_same (tab n f) k v (f 0) (rw length-tab h))))
      (λ (q : j ≡ k → ⊥). get_d-tab n g j (f 0) m ∙ o j m q ∙ sym (get_or-set_other (tab n f) k j v (f 0) q ∙ get_d-tab n f j (f 0) m))
      (same_or_not j k))

  -- the first m of n
  pub take-tab : (m n : ℕ) (f : ℕ → A) → m ≤ n → take m (tab n f) ≡ tab m f
  take-tab m n f h =
      ext_get_or (f 0) (take m (tab n f)) (tab m f) (simp (length-take, length-tab) (omega arith))
      (λ j l. let q : j < min m n = simp (length-take, length-tab) at l in
      get_or-take m (tab n f) j (f 0) (omega arith) ∙ get_d-tab n f j (f 0) (omega arith) ∙ sym (get_d-tab m f j (f 0) (omega arith)))

-- f 0 + .. + f (k - 1)
unfoldable pub sum : (ℕ → ℕ) → ℕ → ℕ
sum f zero = 0
sum f (suc k) = sum f k + f k

pub sum-next : (f : ℕ → ℕ) (k : ℕ) → sum f (k + 1) ≡ sum f k + f k
unfolding sum
sum-next f k = rw add-one refl

pub sum-zero : (f : ℕ → ℕ) → sum f 0 ≡ 0
unfolding sum
sum-zero f = refl

pub sum-ext : (f g : ℕ → ℕ) (k : ℕ) → ((j : ℕ) → j < k → f j ≡ g j) → sum f k ≡ sum g k
unfolding sum
sum-ext f g zero h = refl
sum-ext f g (suc k) h = rw (sum-ext f g k (λ j l. h j (omega arith)), h k (omega arith)) refl

pub sum-part : (f : ℕ → ℕ) (k n : ℕ) → k < n → sum f k + f k ≤ sum f n
unfolding sum
sum-part f k zero h = absurd (omega arith)
sum-part f k (suc n) h = ⊎_elim (λ (e : k ≡ n). rw e (omega arith)) (λ (l : k < n). omega (arith, sum-part f k n l)) (eq-or-lt_of_le (omega arith))

pub sum-le : (f : ℕ → ℕ) (k n : ℕ) → k ≤ n → sum f k ≤ sum f n
sum-le f k n h = ⊎_elim (λ (e : k ≡ n). rw e (omega arith)) (λ (l : k < n). omega (arith, sum-part f k n l)) (eq-or-lt_of_le h)

-- sums that differ in one place
pub sum_one : (f g : ℕ → ℕ) (k n : ℕ) → k < n → ((j : ℕ) → j < n → (j ≡ k → ⊥) → f j ≡ g j) → sum f n + g k ≡ sum g n + f k
unfolding sum
sum_one f g k zero h o = absurd (omega arith)
sum_one f g k (suc n) h o = ⊎_elim
    (λ (e : k ≡ n). let s : sum f k ≡ sum g k = sum-ext f g k (λ j l. o j (omega arith) (λ x. omega arith)) in rw (← e) (omega arith))
    (λ (l : k < n). omega (arith, sum_one f g k n l (λ j q d. o j (omega arith) d), o n (omega arith) (λ x. omega arith)))
    (eq-or-lt_of_le (omega arith))

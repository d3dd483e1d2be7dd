-- Numbers in the order of their first use, as the words have them. Assumes nothing.
use mathlib.Core.Path.{◌≡◌, refl, sym, ap, ◌∙◌}
use mathlib.Core.Bool.{Bool, true, false, ◌&&◌, not}
use mathlib.Core.List.{List, [], ◌∷◌, ◌++◌}
use Prim.Native.Nat.{ℕ, suc, ◌+◌, ◌*◌, ◌/◌, ◌%◌, ◌≤◌, ◌<◌}
use native.Mathlib.Numerals.{add-one}
use native.Mathlib.Omega.{arith}
use borrow.Author.Tests.{eq-eqb, ne_eqb, clash}
use lib.Dec.{eqb}
use lib.ListN.{length, get_or, set, take, drop, length-set, length-take, length-append}
use lib.Seq.{drop-cons, take-suc, get_or-set_same, get_or-set_other}
use Rattle.def_tree.specs.Base.{pick, member}
use Rattle.def_file.specs.declared.Raw.{Raw}
use Rattle.def_file.specs.Script.{has_id, zero_node}
use Rattle.def_canon.specs.Canon.{first_use, first_uses, index_of, has_text_number, text_number, context}
use Rattle.def_tree.proofs.Tests.{is_T}
use Rattle.laws_canon.proofs.Uses.{index-lt, uses-few}
use Rattle.words.specs.Tab.{tab, tab-suc, tab-ext, length-tab, get_d-tab}
use Rattle.words.proofs.Nodes.{beyond-same}
use Rattle.file_read.specs.Load.{Kept}
use Rattle.file_canon.specs.Uses.{used_at, uses_of, Holds, noted, Noted, Used}

pub uses-length : (w : List ℕ) (p : ℕ) → length (uses_of w p) ≡ get_or w p 0
unfolding uses_of
uses-length w p = length-tab (get_or w p 0) (λ i. used_at w p i)

pub uses-at : (w : List ℕ) (p i : ℕ) → i < get_or w p 0 → get_or (uses_of w p) i 0 ≡ used_at w p i
unfolding uses_of
uses-at w p i h = get_d-tab (get_or w p 0) (λ j. used_at w p j) i 0 h

-- the same where the same words stand
pub uses-same : (w w' : List ℕ) (p : ℕ) → length (uses_of w p) ≤ 1024 → ((j : ℕ) → p ≤ j → j < p + 2049 → get_or w' j 0 ≡ get_or w j 0) → uses_of w' p ≡ uses_of w p
unfolding uses_of
uses-same w w' p l h =
    let n = uses-length w p in
    rw (h p (omega arith) (omega arith))
    (tab-ext (get_or w p 0) (λ i. used_at w' p i) (λ i. used_at w p i) (λ k q. rw (h (p + 1 + 2 * k) (omega arith) (omega arith), h (p + 1 + 2 * k + 1) (omega arith) (omega arith)) refl))

-- the search for a number, from place i on
module _ (x : ℕ) (ns : List ℕ) (i : ℕ) where
  pub index-here : i < length ns → get_or ns i 0 ≡ x → index_of x (drop i ns) ≡ 0
  index-here h e = rw (drop-cons ns i 0 h, eq-eqb x (get_or ns i 0) (sym e), index_of) refl

  pub index-next : i < length ns → (get_or ns i 0 ≡ x → ⊥) → index_of x (drop i ns) ≡ suc (index_of x (drop (i + 1) ns))
  index-next h e = rw (add-one, drop-cons ns i 0 h, ne_eqb x (get_or ns i 0) (λ q. e (sym q)), index_of) refl

-- a number that is there has a place, another one that behind them
index-out : (x : ℕ) (ns : List ℕ) → member x ns ≡ false → index_of x ns ≡ length ns
index-out x [] e = refl
index-out x (m ∷ ms) e = go (eqb x m) e (index-out x ms)
  where
    go : (p : Bool) → elim p as (λ q. Bool) [ true ↦ true | false ↦ member x ms ] ≡ false → (member x ms ≡ false → index_of x ms ≡ length ms) → elim p as (λ q. ℕ) [ true ↦ 0 | false ↦ suc (index_of x ms) ] ≡ suc (length ms)
    go true e h = absurd (clash (sym e))
    go false e h = ap suc (h e)

member-yes : (x : ℕ) (ns : List ℕ) → index_of x ns < length ns → member x ns ≡ true
member-yes x ns l = go (member x ns) refl
  where
    go : (p : Bool) → member x ns ≡ p → member x ns ≡ true
    go true e = e
    go false e = absurd (omega (arith, index-out x ns e))

member-no : (x : ℕ) (ns : List ℕ) → length ns ≤ index_of x ns → member x ns ≡ false
member-no x ns l = go (member x ns) refl
  where
    go : (p : Bool) → member x ns ≡ p → member x ns ≡ false
    go true e = absurd (omega (arith, index-lt x ns (is_T (member x ns) e)))
    go false e = e

-- nothing to be noted
pub not-used : (x : ℕ) (ns : List ℕ) (used : Bool) → used ≡ false → ns ≡ noted used x ns
not-used x ns used e = rw e refl

pub known : (x : ℕ) (ns : List ℕ) (used : Bool) → index_of x ns < length ns → ns ≡ noted used x ns
known x ns used h = rw (member-yes x ns h) (go used)
  where
    go : (p : Bool) → ns ≡ pick (p && false) (ns ++ (x ∷ [])) ns
    go true = refl
    go false = refl

-- a number behind them
pub new : (x : ℕ) (ns : List ℕ) (used : Bool) → used ≡ true → length ns ≤ index_of x ns → noted used x ns ≡ ns ++ (x ∷ [])
new x ns used e h = rw (e, member-no x ns h) refl

noted-length : (used : Bool) (x : ℕ) (ns : List ℕ) → length (noted used x ns) ≤ suc (length ns)
noted-length used x ns = go (used && not (member x ns))
  where
    go : (p : Bool) → length (pick p (ns ++ (x ∷ [])) ns) ≤ suc (length ns)
    go true = omega (arith, length-append ns (x ∷ []))
    go false = omega arith

module _ (w : List ℕ) (p x : ℕ) (H : Holds w p) (l : length (uses_of w p) < 1024) where
  small : get_or w p 0 < 1024
  small = omega (arith, uses-length w p)

  abbrev c : ℕ
  c = get_or w p 0

  abbrev q : ℕ
  q = p + 1 + 2 * c

  abbrev w₁ : List ℕ
  w₁ = set w q (x % 4294967296)

  abbrev w₂ : List ℕ
  w₂ = set w₁ (q + 1) (x / 4294967296)

  abbrev w₃ : List ℕ
  w₃ = set w₂ p (c + 1)

  size : length w₃ ≡ length w
  size = simp length-set

  other : (j : ℕ) → (j ≡ q → ⊥) → (j ≡ q + 1 → ⊥) → (j ≡ p → ⊥) → get_or w₃ j 0 ≡ get_or w j 0
  other j a b d = get_or-set_other w₂ p j (c + 1) 0 d ∙ get_or-set_other w₁ (q + 1) j (x / 4294967296) 0 b ∙ get_or-set_other w q j (x % 4294967296) 0 a

  count : get_or w₃ p 0 ≡ c + 1
  count = get_or-set_same w₂ p (c + 1) 0 (simp length-set (omega (arith, small)))

  low : get_or w₃ q 0 ≡ x % 4294967296
  low = get_or-set_other w₂ p q (c + 1) 0 (λ e. omega arith) ∙ get_or-set_other w₁ (q + 1) q (x / 4294967296) 0 (λ e. omega arith) ∙ get_or-set_same w q (x % 4294967296) 0 (omega (arith, small))

  high : get_or w₃ (q + 1) 0 ≡ x / 4294967296
  high = get_or-set_other w₂ p (q + 1) (c + 1) 0 (λ e. omega arith) ∙ get_or-set_same w₁ (q + 1) (x / 4294967296) 0 (simp length-set (omega (arith, small)))

  behind : used_at w₃ p c ≡ x
  behind = rw (low, high) (omega arith)

  one-more : uses_of w₃ p ≡ uses_of w p ++ (x ∷ [])
  unfolding uses_of
  one-more =
      rw (count, tab-suc c (λ i. used_at w₃ p i), behind)
      (ap (λ (r : List ℕ). r ++ (x ∷ []))
      (tab-ext c (λ i. used_at w₃ p i) (λ i. used_at w p i)
      (λ k m. rw (other (p + 1 + 2 * k) (λ e. omega arith) (λ e. omega arith) (λ e. omega arith), other (p + 1 + 2 * k + 1) (λ e. omega arith) (λ e. omega arith) (λ e. omega arith)) refl)))

  pub put-behind : (used : Bool) → used ≡ true → length (uses_of w p) ≤ index_of x (uses_of w p) → Noted w w₃ p used x
  put-behind used e h = record {
    size = size;
    uses = one-more ∙ sym (new x (uses_of w p) used e h);
    before = λ j m. other j (λ z. omega arith) (λ z. omega arith) (λ z. omega arith);
    behind = λ j m. other j (λ z. omega (arith, small)) (λ z. omega (arith, small)) (λ z. omega arith);
  }

-- nothing noted
pub nothing : (w : List ℕ) (p : ℕ) (used : Bool) (x : ℕ) → uses_of w p ≡ noted used x (uses_of w p) → Noted w w p used x
nothing w p used x e = record { size = refl; uses = e; before = λ j m. refl; behind = λ j m. refl }

-- the words past those that are free stay
pub noted-kept : {w w' : List ℕ} {p : ℕ} {used : Bool} {x : ℕ} → p + 2049 ≤ 15504 → Noted w w' p used x → Kept w w'
noted-kept {w} {w'} h N = record { size = N.size; rest = beyond-same w w' N.size (λ j l. N.behind j (omega arith)) }

pub kept-then : {u v w : List ℕ} → Kept u v → Kept v w → Kept u w
kept-then a b = record { size = b.size ∙ a.size; rest = b.rest ∙ a.rest }

-- one node more
first_uses-snoc : (has : Raw → Bool) (of : Raw → ℕ) (ns : List ℕ) (xs : List Raw) (x : Raw) → first_uses has of ns (xs ++ (x ∷ [])) ≡ first_use has of (first_uses has of ns xs) x
unfolding first_uses
first_uses-snoc has of ns [] x = refl
first_uses-snoc has of ns (y ∷ ys) x = first_uses-snoc has of (first_use has of ns y) ys x

-- the numbers of the first k nodes
first_uses-more : (has : Raw → Bool) (of : Raw → ℕ) (xs : List Raw) (k : ℕ) → k < length xs → first_uses has of [] (take (k + 1) xs) ≡ first_use has of (first_uses has of [] (take k xs)) (get_or xs k zero_node)
first_uses-more has of xs k l = ap (first_uses has of []) (rw add-one (take-suc xs k zero_node l)) ∙ first_uses-snoc has of [] (take k xs) (get_or xs k zero_node)

few-used : (has : Raw → Bool) (of : Raw → ℕ) (xs : List Raw) (k : ℕ) → length (first_uses has of [] (take k xs)) ≤ k
few-used has of xs k = omega (arith, uses-few has of [] (take k xs), length-take k xs)

-- none at first
module _ (w : List ℕ) (l : 16384 ≤ length w) where
  abbrev u : List ℕ
  u = set (set w 8336 0) 10385 0

  uses-none : (p : ℕ) → get_or u p 0 ≡ 0 → uses_of u p ≡ []
  unfolding uses_of tab
  uses-none p e = rw (e, tab) refl

  pub used-none : Used u [] × Kept w u
  unfolding first_uses
  used-none = (
    record {
      long = simp length-set l;
      texts = uses-none 8336 (get_or-set_other (set w 8336 0) 10385 8336 0 0 (λ e. omega arith) ∙ get_or-set_same w 8336 0 0 (omega arith));
      contexts = uses-none 10385 (get_or-set_same (set w 8336 0) 10385 0 0 (simp length-set (omega arith)));
    },
    record {
      size = simp length-set;
      rest = beyond-same w u (simp length-set) (λ j m. get_or-set_other (set w 8336 0) 10385 j 0 0 (λ e. omega arith) ∙ get_or-set_other w 8336 j 0 0 (λ e. omega arith));
    },
  )

-- both sets of numbers, at a node
module _ (w : List ℕ) (xs : List Raw) (k : ℕ) (U : Used w (take k xs)) (l : k < length xs) (few : length xs ≤ 1024) where
  pub room-texts : Holds w 8336 × (length (uses_of w 8336) < 1024)
  room-texts =
      let n : length (uses_of w 8336) ≤ k = omega (arith, ap length U.texts, few-used has_text_number text_number xs k) in
      (record { long = U.long; low = omega arith; high = omega arith; few = omega (arith, n) }, omega (arith, n))

  module _ {w₁ : List ℕ} {used : Bool} {t : ℕ} (N : Noted w w₁ 8336 used t) where
    contexts-stay : uses_of w₁ 10385 ≡ uses_of w 10385
    contexts-stay = uses-same w w₁ 10385 (omega (arith, ap length U.contexts, few-used has_id context xs k)) (λ j a b. N.behind j (omega arith))

    pub room-contexts : Holds w₁ 10385 × (length (uses_of w₁ 10385) < 1024)
    room-contexts =
        let n : length (uses_of w₁ 10385) ≤ k = omega (arith, ap length contexts-stay, ap length U.contexts, few-used has_id context xs k) in
        (record { long = omega (arith, U.long, N.size); low = omega arith; high = omega arith; few = omega (arith, n) }, omega (arith, n))

    module _ {w₂ : List ℕ} {named : Bool} {v : ℕ} (M : Noted w₁ w₂ 10385 named v) (x : Raw) (e : get_or xs k zero_node ≡ x) where
      texts-stay : uses_of w₂ 8336 ≡ uses_of w₁ 8336
      texts-stay =
          uses-same w₁ w₂ 8336 (omega (arith, ap length N.uses, noted-length used t (uses_of w 8336), room-texts.1)) (λ j a b. M.before j (omega arith))

      pub used-more : used ≡ has_text_number x → t ≡ x.text → named ≡ has_id x → v ≡ x.bits → Used w₂ (take (k + 1) xs)
      used-more p q r s = record {
        long = omega (arith, U.long, N.size, M.size);
        texts = texts-stay ∙ N.uses ∙ rw (U.texts, p, q, ← e) (sym (first_uses-more has_text_number text_number xs k l));
        contexts = M.uses ∙ rw (contexts-stay, U.contexts, r, s, ← e) (sym (first_uses-more has_id context xs k l));
      }

-- Sets of numbers as bits of eight words: kept, empty, joined, and one more. Assumes nothing.
use mathlib.Core.Path.{◌≡◌, refl, sym, ap, ◌∙◌}
use mathlib.Core.List.{List}
use mathlib.Core.Bool.{Bool, true, false, ◌||◌}
use mathlib.Core.Logic.{◌⊎◌, ⊎_elim, inl, inr}
use Prim.Native.Nat.{ℕ, zero, suc, ◌+◌, ◌-◌, ◌*◌, ◌/◌, ◌%◌, ◌^◌, ◌≤◌, ◌<◌}
use native.Mathlib.Omega.{arith}
use native.Mathlib.Nat.{zero-div, div-eq_of_lt, one-mul}
use borrow.Author.Tests.{eq-eqb, ne_eqb}
use lib.ListN.{length, get_or, set, length-set}
use lib.Seq.{get_or-set_same, get_or-set_other, drop-set-lt}
use lib.Dec.{eqb}
use lib.Bits.{bit_or, or_zero_l, or_add_and, and_le_r, or_shr, or_mod, shifted_even}
use lib.Pow.{pow-lt, pow-add, shl-shr, shl_exact}
use Rattle.words.specs.Tab.{same_or_not}
use Rattle.words.specs.Layout.{yes}
use Rattle.words.specs.Flags.{flag_at, Flagged}

-- the bits of two numbers are a flag: either of them
pub or_yes : (x y : ℕ) → yes (bit_or x y) ≡ (yes x || yes y)
or_yes zero y = ap yes (or_zero_l y)
or_yes (suc x) y = go (bit_or (suc x) y) (omega (arith, or_add_and (suc x) y, and_le_r (suc x) y))
  where
    go : (n : ℕ) → 0 < n → yes n ≡ true
    go zero h = absurd (omega arith)
    go (suc n) h = refl

-- bit k of two words joined
pub or-bit : (n m k : ℕ) → yes (bit_or n m / 2 ^ k % 2) ≡ (yes (n / 2 ^ k % 2) || yes (m / 2 ^ k % 2))
or-bit n m k = ap yes (ap (λ (v : ℕ). v % 2) (or_shr n m k) ∙ or_mod (n / 2 ^ k) (m / 2 ^ k) 1) ∙ or_yes (n / 2 ^ k % 2) (m / 2 ^ k % 2)

-- bit k of a word that has bit i alone
one_bit : (i k : ℕ) → yes (1 * 2 ^ i / 2 ^ k % 2) ≡ eqb i k
one_bit i k = ⊎_elim
    (λ (e : i ≡ k). rw e (ap (λ (v : ℕ). yes (v % 2)) (shl-shr 1 k) ∙ sym (eq-eqb k k refl)))
    (λ (o : (i < k) ⊎ (k < i)). ⊎_elim
    (λ (l : i < k). ap (λ (v : ℕ). yes (v % 2)) (ap (λ (v : ℕ). v / 2 ^ k) (one-mul (2 ^ i)) ∙ div-eq_of_lt (pow-lt l)) ∙ sym (ne_eqb i k (λ e. omega (arith, e))))
    (λ (l : k < i). high i k (i - k - 1) (omega arith) ∙ sym (ne_eqb i k (λ e. omega (arith, e)))) o)
    (three i k)
  where
    three : (i k : ℕ) → (i ≡ k) ⊎ ((i < k) ⊎ (k < i))
    three zero zero = inl refl
    three zero (suc k) = inr (inl (omega arith))
    three (suc i) zero = inr (inr (omega arith))
    three (suc i) (suc k) = ⊎_elim (λ e. inl (ap suc e)) (λ o. inr (⊎_elim (λ (l : i < k). inl (omega arith)) (λ (l : k < i). inr (omega arith)) o)) (three i k)

    high : (i k t : ℕ) → i ≡ suc t + k → yes (1 * 2 ^ i / 2 ^ k % 2) ≡ false
    high i k t e = rw (e, pow-add 2 (suc t) k) (ap (λ (v : ℕ). yes (v % 2)) (ap (λ (v : ℕ). v / 2 ^ k) (one-mul (2 ^ suc t * 2 ^ k)) ∙ shl-shr (2 ^ suc t) k) ∙ ap yes (ap (λ (v : ℕ). v % 2) (sym (one-mul (2 ^ suc t))) ∙ shifted_even 1 t))

-- a set whose words are kept
pub flag_same : (w u : List ℕ) (p x : ℕ) → x < 256 → ((j : ℕ) → j < 8 → get_or u (p + j) 0 ≡ get_or w (p + j) 0) → flag_at u p x ≡ flag_at w p x
unfolding flag_at
flag_same w u p x h s = ap (λ (v : ℕ). v / 2 ^ (x % 32) % 2) (s (x / 32) (omega arith))

-- the empty set
pub flag-none : (w : List ℕ) (p x : ℕ) → x < 256 → ((j : ℕ) → j < 8 → get_or w (p + j) 0 ≡ 0) → flag_at w p x ≡ 0
unfolding flag_at
flag-none w p x h s = ap (λ (v : ℕ). v / 2 ^ (x % 32) % 2) (s (x / 32) (omega arith)) ∙ ap (λ (v : ℕ). v % 2) (zero-div (2 ^ (x % 32)))

-- two sets joined
pub flag-or : (w u : List ℕ) (a b x : ℕ) → x < 256 → ((j : ℕ) → j < 8 → get_or u (b + j) 0 ≡ bit_or (get_or w (a + j) 0) (get_or w (b + j) 0)) → yes (flag_at u b x) ≡ (yes (flag_at w a x) || yes (flag_at w b x))
unfolding flag_at
flag-or w u a b x h s = ap (λ (v : ℕ). yes (v / 2 ^ (x % 32) % 2)) (s (x / 32) (omega arith)) ∙ or-bit (get_or w (a + x / 32) 0) (get_or w (b + x / 32) 0) (x % 32)

or_comm' : (a b : Bool) → (a || b) ≡ (b || a)
or_comm' true true = refl
or_comm' true false = refl
or_comm' false true = refl
or_comm' false false = refl

-- numbers that stand in the same word, by their bits
digits : (x j : ℕ) → x / 32 ≡ j / 32 → eqb (x % 32) (j % 32) ≡ eqb x j
digits x j e = ⊎_elim
    (λ (s : x ≡ j). rw s (eq-eqb (j % 32) (j % 32) refl ∙ sym (eq-eqb j j refl)))
    (λ (d : x ≡ j → ⊥). ne_eqb (x % 32) (j % 32) (λ s. d (omega arith)) ∙ sym (ne_eqb x j d))
    (same_or_not x j)

-- one number more
module _ (w : List ℕ) (p x : ℕ) (small : x < 256) (l : p + 8 ≤ length w) where
  abbrev q : ℕ
  q = p + x / 32

  abbrev v : ℕ
  v = bit_or (get_or w q 0) ((1 * 2 ^ (x % 32)) % 2 ^ 32)

  shifted : (1 * 2 ^ (x % 32)) % 2 ^ 32 ≡ 1 * 2 ^ (x % 32)
  shifted = shl_exact 1 (x % 32) 32 (omega arith) (omega arith)

  -- by the word that j stands in
  same : (j : ℕ) → j / 32 ≡ x / 32 → yes (get_or (set w q v) (p + j / 32) 0 / 2 ^ (j % 32) % 2) ≡ (eqb x j || yes (get_or w (p + j / 32) 0 / 2 ^ (j % 32) % 2))
  same j e = rw e (ap (λ (n : ℕ). yes (n / 2 ^ (j % 32) % 2)) (get_or-set_same w q v 0 (omega arith) ∙ ap (bit_or (get_or w q 0)) shifted)
      ∙ or-bit (get_or w q 0) (1 * 2 ^ (x % 32)) (j % 32) ∙ or_comm' (yes (get_or w q 0 / 2 ^ (j % 32) % 2)) (yes (1 * 2 ^ (x % 32) / 2 ^ (j % 32) % 2))
      ∙ ap (λ (b : Bool). b || yes (get_or w q 0 / 2 ^ (j % 32) % 2)) (one_bit (x % 32) (j % 32) ∙ digits x j (sym e)))

  else : (j : ℕ) → (j / 32 ≡ x / 32 → ⊥) → yes (get_or (set w q v) (p + j / 32) 0 / 2 ^ (j % 32) % 2) ≡ (eqb x j || yes (get_or w (p + j / 32) 0 / 2 ^ (j % 32) % 2))
  else j d = rw (ne_eqb x j (λ e. d (ap (λ (n : ℕ). n / 32) (sym e)))) (ap (λ (n : ℕ). yes (n / 2 ^ (j % 32) % 2)) (get_or-set_other w q (p + j / 32) v 0 (λ e. d (omega arith))))

  pub flagged : Flagged w (set w q v) p x
  unfolding flag_at
  flagged = record {
    size = length-set w q v;
    here = λ j h. ⊎_elim (λ (e : j / 32 ≡ x / 32). same j e) (λ (d : j / 32 ≡ x / 32 → ⊥). else j d) (same_or_not (j / 32) (x / 32));
    other = λ j d. get_or-set_other w q j v 0 d;
    rest = λ n h. drop-set-lt n w q v (omega arith);
  }

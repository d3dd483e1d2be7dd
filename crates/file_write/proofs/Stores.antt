-- Stores of bytes, over the width, and copies. Assumes nothing.
use mathlib.Core.Path.{◌≡◌, refl, sym, ap, ap₂, ◌∙◌}
use mathlib.Core.List.{List, [], ◌∷◌, ◌++◌}
use Prim.Native.Nat.{ℕ, zero, suc, ◌+◌, ◌/◌, ◌%◌, ◌^◌, ◌<◌}
use native.Mathlib.Nat.{pow-suc, add-zero, div-one, div-div-eq-div-mul}
use native.Mathlib.Omega.{arith}
use lib.ListN.{length, set}
use lib.Seq.{sets}
use Rattle.std.specs.Int.{byte_at, bytes_low_first}
use Rattle.def_file.specs.Write.{bytes}
pub use Rattle.words.proofs.Stored.{stretch}

-- a second run of stores right behind the first
sets_more : (l vs us : List ℕ) (i j : ℕ) → j ≡ i + length vs → sets (sets l i vs) j us ≡ sets l i (vs ++ us)
sets_more l [] us i j e = rw (e, add-zero) refl
sets_more l (v ∷ vs) us i j e = sets_more (set l i v) vs us (suc i) j (omega arith)

-- l' is l with vs stored from i on
pub record Stored (l : List ℕ) (i : ℕ) (vs l' : List ℕ) : Type 0 where
  pub is : l' ≡ sets l i vs

pub first : (l : List ℕ) (i : ℕ) (vs : List ℕ) {l' : List ℕ} → l' ≡ sets l i vs → Stored l i vs l'
first l i vs e = record { is = e }

pub then : {l : List ℕ} {i : ℕ} {vs l₁ l₂ : List ℕ} → Stored l i vs l₁ → (j : ℕ) (us : List ℕ) → l₂ ≡ sets l₁ j us → j ≡ i + length vs → Stored l i (vs ++ us) l₂
then {l} {i} {vs} {l₁} {l₂} s j us q e = record { is = q ∙ ap (λ (x : List ℕ). sets x j us) s.is ∙ sets_more l vs us i j e }

-- the bytes of a number, as std's methods give them
low-first : (i k n : ℕ) → bytes_low_first i k n ≡ bytes k (n / 256 ^ i)
low-first i zero n = refl
low-first i (suc k) n = ap₂ {C = List ℕ} (λ (b : ℕ) (bs : List ℕ). b ∷ bs) (here i) (low-first (suc i) k n ∙ ap (bytes k) next)
  where
    here : (i : ℕ) → byte_at i n ≡ n / 256 ^ i % 256
    here zero = sym (ap (λ (m : ℕ). m % 256) (div-one n))
    here (suc i) = refl

    next : n / 256 ^ suc i ≡ n / 256 ^ i / 256
    next = rw pow-suc (sym (div-div-eq-div-mul n (256 ^ i) 256))

little : (k n : ℕ) → bytes_low_first 0 k n ≡ bytes k n
little k n = low-first 0 k n ∙ ap (bytes k) (div-one n)

pub first_number : (l : List ℕ) (i k n : ℕ) {f l' : List ℕ} → f ≡ bytes_low_first 0 k n → l' ≡ sets l i f → Stored l i (bytes k n) l'
first_number l i k n e q = first l i (bytes k n) (q ∙ ap (sets l i) (e ∙ little k n))

pub then_number : {l : List ℕ} {i : ℕ} {vs l₁ l₂ f : List ℕ} → Stored l i vs l₁ → (j k n : ℕ) → f ≡ bytes_low_first 0 k n → l₂ ≡ sets l₁ j f → j ≡ i + length vs → Stored l i (vs ++ bytes k n) l₂
then_number {l₁ = l₁} s j k n e q h = then s j (bytes k n) (q ∙ ap (sets l₁ j) (e ∙ little k n)) h

pub two_bytes : (k f : ℕ) → k < 256 → f < 256 → k ∷ f ∷ [] ≡ bytes 1 k ++ bytes 1 f
two_bytes k f a b =
    let p : k % 256 ≡ k = omega arith in
    let q : f % 256 ≡ f = omega arith in
    rw (p, q) refl

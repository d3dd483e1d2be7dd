-- Little-endian numbers, by the bytes of a list. Assumes nothing.
use Rattle.std.proofs.Common.{◌≡◌, ℕ, zero, suc, ◌+◌, ◌*◌, List, [], ◌∷◌, get_or, get_or-drop, take, drop, refl, sym, ap, ◌∙◌, arith}
use Rattle.std.proofs.Math.Nat.{add-zero, pow-suc}
use Rattle.std.specs.Int.{byte_worth, sum_through}
use Rattle.def_file.specs.Read.{number}

sum-front : (f : ℕ → ℕ) (k : ℕ) → sum_through f (suc k) ≡ f 0 + sum_through (λ i. f (suc i)) k
sum-front f zero = refl
sum-front f (suc k) = omega (arith, sum-front f k)

worth-next : (i b : ℕ) → byte_worth (suc i) b ≡ 256 * byte_worth i b
worth-next zero b = omega arith
worth-next (suc i) b = rw (pow-suc 256 (suc i)) (omega arith)

sum-next : (g : ℕ → ℕ) (k : ℕ) → sum_through (λ i. byte_worth (suc i) (g i)) k ≡ 256 * sum_through (λ i. byte_worth i (g i)) k
sum-next g zero = worth-next 0 (g 0)
sum-next g (suc k) = omega (arith, sum-next g k, worth-next (suc k) (g (suc k)))

sum-none : (k : ℕ) → sum_through (λ i. byte_worth i (get_or [] i 0)) k ≡ 0
sum-none zero = refl
sum-none (suc k) = omega (arith, sum-none k)

-- a number is what its bytes are worth
number-sum : (k : ℕ) (bs : List ℕ) → number (suc k) bs ≡ sum_through (λ i. byte_worth i (get_or bs i 0)) k
number-sum k [] = sym (sum-none k)
number-sum zero (b ∷ bs) = omega arith
number-sum (suc k) (b ∷ bs) =
    ap (λ (m : ℕ). b + 256 * m) (number-sum k bs) ∙ ap (λ (m : ℕ). b + m) (sym (sum-next (λ i. get_or bs i 0) k)) ∙ sym (sum-front (λ i. byte_worth i (get_or (b ∷ bs) i 0)) k)

number-take : (n : ℕ) (bs : List ℕ) → number n (take n bs) ≡ number n bs
number-take zero bs = refl
number-take (suc n) [] = refl
number-take (suc n) (b ∷ bs) = ap (λ (m : ℕ). b + 256 * m) (number-take n bs)

-- a number that was read of the first k + 1 bytes
pub number-read : (k : ℕ) (bs : List ℕ) {xs : List ℕ} {n : ℕ} → xs ≡ take (suc k) bs → n ≡ sum_through (λ i. byte_worth i (get_or xs i 0)) k → n ≡ number (suc k) bs
number-read k bs {xs} e h = h ∙ sym (number-sum k xs) ∙ ap (number (suc k)) e ∙ number-take (suc k) bs

pub byte_at : (i : ℕ) (bs : List ℕ) → number 1 (drop i bs) ≡ get_or bs i 0
byte_at i bs = number-sum 0 (drop i bs) ∙ get_or-drop i bs 0 0 ∙ ap (λ (k : ℕ). get_or bs k 0) (add-zero i)

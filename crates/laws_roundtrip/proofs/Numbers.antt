-- Numbers and their little-endian bytes, over the width. Assumes nothing.
use mathlib.Core.Path.{◌≡◌, refl, ap}
use mathlib.Core.List.{List, [], ◌∷◌, ◌++◌}
use Prim.Native.Nat.{ℕ, zero, suc, ◌+◌, ◌*◌, ◌/◌, ◌%◌, ◌^◌, ◌≤◌, ◌<◌}
use native.Mathlib.Nat.{pow-suc, le_of_suc-le-suc, not-suc-le-zero}
use native.Mathlib.Omega.{arith}
use lib.ListN.{length, drop, length-drop}
use lib.Seq.{get_or-drop, drop-drop}
use Rattle.def_file.specs.Read.{number}
use Rattle.def_file.specs.Write.{bytes}
use Rattle.laws_roundtrip.specs.Fits.{Bytes}

pub bytes_drop : (n : ℕ) (bs : List ℕ) → Bytes bs → Bytes (drop n bs)
bytes_drop n bs h i = rw get_or-drop (h (n + i))

-- a number out of its bytes
pub number-bytes : (k n : ℕ) (rest : List ℕ) → n < 256 ^ k → number k (bytes k n ++ rest) ≡ n
number-bytes zero n rest h = omega arith
number-bytes (suc k) n rest h =
    let l : n < 256 ^ k * 256 = rw pow-suc at h in
    rw (number-bytes k (n / 256) rest (omega arith)) (omega arith)

-- the bytes of a number that was read
pub bytes-number : (k : ℕ) (bs : List ℕ) → k ≤ length bs → Bytes bs → bytes k (number k bs) ++ drop k bs ≡ bs
bytes-number zero bs l h = refl
bytes-number (suc k) [] l h = absurd (not-suc-le-zero l)
bytes-number (suc k) (b ∷ bs) l h =
    let low : b < 256 = h 0 in
    let m : (b + 256 * number k bs) % 256 ≡ b = omega arith in
    let d : (b + 256 * number k bs) / 256 ≡ number k bs = omega arith in
    rw (m, d, bytes-number k bs (le_of_suc-le-suc l) (λ i. h (suc i))) refl

pub number_lt : (k : ℕ) (bs : List ℕ) → Bytes bs → number k bs < 256 ^ k
number_lt zero bs h = omega arith
number_lt (suc k) [] h = rw pow-suc (omega (arith, number_lt k [] h))
number_lt (suc k) (b ∷ bs) h =
    let low : b < 256 = h 0 in
    let l : number k bs < 256 ^ k = number_lt k bs (λ i. h (suc i)) in
    rw pow-suc (omega arith)

pub bytes-length : (k n : ℕ) → length (bytes k n) ≡ k
bytes-length zero n = refl
bytes-length (suc k) n = ap suc (bytes-length k (n / 256))

-- a field of a list, before the bytes behind it
module _ (bs : List ℕ) (h : Bytes bs) where
  pub field : (k i : ℕ) {x : ℕ} {r : List ℕ} → i + k ≤ length bs → number k (drop i bs) ≡ x → r ≡ drop (i + k) bs → bytes k x ++ r ≡ drop i bs
  field k i l e q = rw (← e, q, ← drop-drop k i bs) (bytes-number k (drop i bs) (simp length-drop (omega arith)) (bytes_drop i bs h))

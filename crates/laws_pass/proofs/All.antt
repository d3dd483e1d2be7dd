-- What holds of each member of a list. Assumes nothing.
use mathlib.Core.List.{List, [], ◌∷◌, ◌++◌, map}
use Prim.Native.Nat.{ℕ, zero, suc, ◌<◌}
use native.Mathlib.Omega.{arith}
use lib.ListN.{length, get_or}

abbrev pub All : {A : Type 0} → (A → Type 0) → List A → Type 0
All P [] = Unit {0}
All P (x ∷ xs) = P x × All P xs

pub all_map : {A : Type 0} (P : A → Type 0) (f : A → A) → ((a : A) → P a → P (f a)) → (xs : List A) → All P xs → All P (map f xs)
all_map P f h [] t = tt
all_map P f h (x ∷ xs) t = (h x t.0, all_map P f h xs t.1)

pub all_append : {A : Type 0} (P : A → Type 0) (xs : List A) (y : A) → All P xs → P y → All P (xs ++ (y ∷ []))
all_append P [] y t h = (h, tt)
all_append P (x ∷ xs) y t h = (t.0, all_append P xs y t.1 h)

pub get_d-all : {A : Type 0} (P : A → Type 0) (xs : List A) (n : ℕ) (d : A) → All P xs → P d → P (get_or xs n d)
get_d-all P [] n d h k = k
get_d-all P (x ∷ xs) zero d h k = h.0
get_d-all P (x ∷ xs) (suc n) d h k = get_d-all P xs n d h.1 k

pub get_d-in : {A : Type 0} (P : A → Type 0) (xs : List A) (n : ℕ) (d : A) → All P xs → n < length xs → P (get_or xs n d)
get_d-in P [] n d h l = absurd (omega (arith, l))
get_d-in P (x ∷ xs) zero d h l = h.0
get_d-in P (x ∷ xs) (suc n) d h l = get_d-in P xs n d h.1 (omega (arith, l))

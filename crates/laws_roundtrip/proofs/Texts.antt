-- Texts, their ends and their bytes. Assumes nothing.
use mathlib.Core.Path.{◌≡◌, refl, sym, ap, ap₂}
use mathlib.Core.Bool.{Bool, true, false, ◌&&◌}
use mathlib.Core.List.{List, [], ◌∷◌, ◌++◌}
use Prim.Native.Nat.{ℕ, zero, suc, ◌+◌, ◌-◌, ◌*◌, ◌≤◌, ◌<◌}
use native.Mathlib.Omega.{arith}
use borrow.Author.Tests.{leb-true, eqb-true, le-leb, eq-eqb}
use lib.Dec.{leb}
use lib.ListN.{length, get_or, take, drop, length-append, length-drop}
use lib.Seq.{drop-drop, take_at, drop_at, take-add, length-take-le}
use Rattle.def_file.specs.Read.{number, ends_from, texts_from, rising}
use Rattle.def_file.specs.Write.{end_bytes, text_bytes}
use Rattle.laws_roundtrip.specs.Fits.{Bytes}
use Rattle.laws_roundtrip.proofs.Numbers.{bytes_drop, bytes-number, number-bytes}

pub both : (a b : Bool) → (a && b) ≡ true → (a ≡ true) × (b ≡ true)
both true b h = (refl, h)
both false b h = let z : ◌≡◌ {A = ℕ} 0 1 = cc in absurd (omega arith)

-- texts into ends and bytes
pub ends_of : ℕ → List (List ℕ) → List ℕ
ends_of at [] = []
ends_of at (t ∷ ts) = (at + length t) ∷ ends_of (at + length t) ts

pub end-bytes-length : (at : ℕ) (ts : List (List ℕ)) → length (end_bytes at ts) ≡ 4 * length ts
unfolding end_bytes
end-bytes-length at [] = refl
end-bytes-length at (t ∷ ts) = omega (arith, end-bytes-length (at + length t) ts)

pub ends-bytes : (at : ℕ) (ts : List (List ℕ)) (rest : List ℕ) → at + length (text_bytes ts) < 4294967296 → ends_from (length ts) (end_bytes at ts ++ rest) ≡ ends_of at ts
unfolding ends_from end_bytes text_bytes ends_of
ends-bytes at [] rest h = refl
ends-bytes at (t ∷ ts) rest h =
    let l : length (t ++ text_bytes ts) ≡ length t + length (text_bytes ts) = length-append t (text_bytes ts) in
    ap₂ {C = List ℕ} (λ x xs. x ∷ xs) (number-bytes 4 (at + length t) (end_bytes (at + length t) ts ++ rest) (omega arith)) (ends-bytes (at + length t) ts rest (omega arith))

pub texts-bytes : (at : ℕ) (ts : List (List ℕ)) → texts_from at (ends_of at ts) (text_bytes ts) ≡ ts
unfolding texts_from text_bytes ends_of
texts-bytes at [] = refl
texts-bytes at (t ∷ ts) =
    let e : at + length t - at ≡ length t = omega arith in
    rw (e, take_at t (text_bytes ts) (length t) refl, drop_at t (text_bytes ts) (length t) refl, texts-bytes (at + length t) ts) refl

pub ends-rise : (at : ℕ) (ts : List (List ℕ)) → rising at (ends_of at ts) (at + length (text_bytes ts)) ≡ true
unfolding rising text_bytes ends_of
ends-rise at [] = eq-eqb at (at + 0) (omega arith)
ends-rise at (t ∷ ts) =
    let e : at + length (t ++ text_bytes ts) ≡ at + length t + length (text_bytes ts) = omega (arith, length-append t (text_bytes ts)) in
    rw (e, le-leb at (at + length t) (omega arith)) (ends-rise (at + length t) ts)

-- ends and bytes that were read, into texts
module _ (n : ℕ) where
  pub rises : (at e : ℕ) (es : List ℕ) → rising at (e ∷ es) n ≡ true → (at ≤ e) × (rising e es n ≡ true)
  unfolding rising
  rises at e es r = let p = both (leb at e) (rising e es n) r in (leb-true at e p.0, p.1)

  pub rise-le : (at : ℕ) (es : List ℕ) → rising at es n ≡ true → at ≤ n
  unfolding rising
  rise-le at [] r = omega (arith, eqb-true at n r)
  rise-le at (e ∷ es) r = let p = rises at e es r in omega (arith, p.0, rise-le e es p.1)

  module _ (at e : ℕ) (es body : List ℕ) (l : n - at ≤ length body) (r : rising at (e ∷ es) n ≡ true) where
    -- the first text reaches from `at` to e, and the others have room behind it
    pub first-end : at + length (take (e - at) body) ≡ e
    first-end = let p = rises at e es r in let m = rise-le e es p.1 in omega (arith, length-take-le (e - at) body (omega (arith, p.0)), p.0)

    pub room : n - e ≤ length (drop (e - at) body)
    room = let p = rises at e es r in omega (arith, length-drop (e - at) body, p.0)

  pub bytes-ends : (t at : ℕ) (xs body : List ℕ) → Bytes xs → 4 * t ≤ length xs → n - at ≤ length body → rising at (ends_from t xs) n ≡ true
      → end_bytes at (texts_from at (ends_from t xs) body) ++ drop (4 * t) xs ≡ xs
  unfolding ends_from texts_from end_bytes
  bytes-ends zero at xs body h l m r = refl
  bytes-ends (suc t) at xs body h l m r =
      let e : ℕ = number 4 xs in
      let es : List ℕ = ends_from t (drop 4 xs) in
      let q : 4 * suc t ≡ 4 + 4 * t = omega arith in
      let f : at + length (take (e - at) body) ≡ e = first-end at e es body m r in
      rw (q, ← drop-drop (4 * t) 4 xs, f, bytes-ends t e (drop 4 xs) (drop (e - at) body) (bytes_drop 4 xs h) (simp length-drop (omega arith)) (room at e es body m r) (rises at e es r).1) (bytes-number 4 xs (omega arith) h)

  pub bytes-texts : (at : ℕ) (es body : List ℕ) → n - at ≤ length body → rising at es n ≡ true → text_bytes (texts_from at es body) ≡ take (n - at) body
  unfolding texts_from text_bytes rising
  bytes-texts at [] body m r = let e : n - at ≡ 0 = omega (arith, eqb-true at n r) in rw e refl
  bytes-texts at (e ∷ es) body m r =
      let p = rises at e es r in
      let q = rise-le e es p.1 in
      let s : n - at ≡ e - at + (n - e) = omega (arith, p.0) in
      rw (bytes-texts e es (drop (e - at) body) (room at e es body m r) p.1, s) (sym (take-add (e - at) (n - e) body))

pub texts-length : (t at : ℕ) (xs body : List ℕ) → length (texts_from at (ends_from t xs) body) ≡ t
unfolding ends_from texts_from
texts-length zero at xs body = refl
texts-length (suc t) at xs body = ap suc (texts-length t (number 4 xs) (drop 4 xs) (drop (number 4 xs - at) body))

-- a text's bytes are the file's
pub bytes_take : (n : ℕ) (bs : List ℕ) → Bytes bs → Bytes (take n bs)
bytes_take zero bs h i = omega arith
bytes_take (suc n) [] h i = omega arith
bytes_take (suc n) (b ∷ bs) h zero = h 0
bytes_take (suc n) (b ∷ bs) h (suc i) = bytes_take n bs (λ j. h (suc j)) i

pub texts-narrow : (at : ℕ) (es body : List ℕ) → Bytes body → (k : ℕ) → Bytes (get_or (texts_from at es body) k [])
unfolding texts_from
texts-narrow at [] body h k = λ i. omega arith
texts-narrow at (e ∷ es) body h zero = bytes_take (e - at) body h
texts-narrow at (e ∷ es) body h (suc k) = texts-narrow e es (drop (e - at) body) (bytes_drop (e - at) body h) k

-- Numbers of places of a list, none twice: they are not more than the list has, nor is what stands there more than all of it. Assumes nothing.
use mathlib.Core.Path.{◌≡◌, refl, sym, ap₂}
use mathlib.Core.Bool.{Bool, true, false}
use mathlib.Core.List.{List, [], ◌∷◌, map}
use Prim.Native.Nat.{ℕ, zero, suc, ◌+◌, ◌≤◌, ◌<◌}
use native.Mathlib.Omega.{arith}
use lib.Dec.{eqb}
use lib.ListN.{length, get_or, set, length-append, get_or-map}
use lib.Seq.{get_or-set_other}
use borrow.Author.Tests.{eqb-false, clash}
use Rattle.def_tree.specs.Base.{member}
use Rattle.def_file.specs.Write.{text_bytes}
use Rattle.laws_pass.proofs.All.{All}
use Rattle.laws_canon.proofs.Uses.{Lone}

abbrev total : List ℕ → ℕ
total [] = 0
total (w ∷ ws) = w + total ws

abbrev total_at : List ℕ → List ℕ → ℕ
total_at ws [] = 0
total_at ws (n ∷ ns) = get_or ws n 0 + total_at ws ns

-- one taken out
total-set : (ws : List ℕ) (n : ℕ) → total ws ≡ get_or ws n 0 + total (set ws n 0)
total-set [] n = omega arith
total-set (w ∷ ws) zero = omega arith
total-set (w ∷ ws) (suc n) = omega (arith, total-set ws n)

total_at-set : (ws : List ℕ) (n : ℕ) (ns : List ℕ) → member n ns ≡ false → total_at (set ws n 0) ns ≡ total_at ws ns
total_at-set ws n [] e = refl
total_at-set ws n (m ∷ ns) e = go (eqb n m) refl e (total_at-set ws n ns)
  where
    go : (p : Bool) → eqb n m ≡ p → elim p as (λ x. Bool) [ true ↦ true | false ↦ member n ns ] ≡ false → (member n ns ≡ false → total_at (set ws n 0) ns ≡ total_at ws ns) → get_or (set ws n 0) m 0 + total_at (set ws n 0) ns ≡ get_or ws m 0 + total_at ws ns
    go true q e f = absurd (clash (sym e))
    go false q e f = ap₂ {C = ℕ} (λ (a b : ℕ). a + b) (get_or-set_other ws n m 0 0 (λ r. eqb-false n m q (sym r))) (f e)

part : (ns ws : List ℕ) → Lone ns → total_at ws ns ≤ total ws
part [] ws h = omega arith
part (n ∷ ns) ws h = omega (arith, total-set ws n, total_at-set ws n ns h.0, part ns (set ws n 0) h.1)

-- of texts
ones : List (List ℕ) → List ℕ
ones [] = []
ones (t ∷ ts) = 1 ∷ ones ts

ones-total : (ts : List (List ℕ)) → total (ones ts) ≡ length ts
unfolding ones
ones-total [] = refl
ones-total (t ∷ ts) = omega (arith, ones-total ts)

one-at : (ts : List (List ℕ)) (n : ℕ) → n < length ts → ◌≡◌ {A = ℕ} (get_or (ones ts) n 0) 1
unfolding ones
one-at [] n l = absurd (omega (arith, l))
one-at (t ∷ ts) zero l = refl
one-at (t ∷ ts) (suc n) l = one-at ts n (omega (arith, l))

module _ (ts : List (List ℕ)) where
  ones-at : (ns : List ℕ) → All (λ (n : ℕ). n < length ts) ns → total_at (ones ts) ns ≡ length ns
  ones-at [] h = refl
  ones-at (n ∷ ns) h = omega (arith, one-at ts n h.0, ones-at ns h.1)

  pub fewer : (ns : List ℕ) → Lone ns → All (λ (n : ℕ). n < length ts) ns → length ns ≤ length ts
  fewer ns h k = omega (arith, part ns (ones ts) h, ones-total ts, ones-at ns k)

  sizes-total : (us : List (List ℕ)) → total (map (λ (t : List ℕ). length t) us) ≡ length (text_bytes us)
  unfolding text_bytes
  sizes-total [] = refl
  sizes-total (u ∷ us) = omega (arith, length-append u (text_bytes us), sizes-total us)

  sizes-at : (ns : List ℕ) → total_at (map (λ (t : List ℕ). length t) ts) ns ≡ length (text_bytes (map (λ (n : ℕ). get_or ts n []) ns))
  unfolding text_bytes
  sizes-at [] = refl
  sizes-at (n ∷ ns) =
      let e : get_or (map (λ (t : List ℕ). length t) ts) n 0 ≡ length (get_or ts n []) = get_or-map (λ (t : List ℕ). length t) ts n [] in
      omega (arith, e, length-append (get_or ts n []) (text_bytes (map (λ (m : ℕ). get_or ts m []) ns)), sizes-at ns)

  pub shorter : (ns : List ℕ) → Lone ns → length (text_bytes (map (λ (n : ℕ). get_or ts n []) ns)) ≤ length (text_bytes ts)
  shorter ns h = omega (arith, part ns (map (λ (t : List ℕ). length t) ts) h, sizes-total ts, sizes-at ns)

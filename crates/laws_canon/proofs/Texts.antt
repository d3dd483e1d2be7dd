-- Texts of which no two are equal: two numbers are equal where their texts are. Assumes nothing.
use mathlib.Core.Path.{◌≡◌, refl, sym, ap, ap₂, ◌∙◌, subst}
use mathlib.Core.Bool.{Bool, true, false, ◌&&◌, ◌||◌, not}
use mathlib.Core.List.{List, [], ◌∷◌, map}
use Prim.Native.Nat.{ℕ, zero, suc, ◌<◌}
use native.Mathlib.Omega.{arith}
use lib.Dec.{T, T_not, eqb, eqb→eq, eqb_refl}
use lib.ListN.{length, get_or}
use borrow.Author.Tests.{eqb-true, eqb-false}
use Rattle.def_tree.specs.Base.{member}
use Rattle.def_file.specs.Script.{same_text}
use Rattle.def_file.specs.Read.{any_text, distinct}
use Rattle.def_tree.proofs.Tests.{is_T, is_true, and_left, and_right, both, or_left, or_right}
use Rattle.laws_pass.proofs.All.{All}
use Rattle.laws_roundtrip.proofs.Texts as Parts
use Rattle.laws_canon.proofs.Uses.{Lone}

same-refl : (t : List ℕ) → T (same_text t t)
same-refl [] = tt
same-refl (b ∷ t) = both (eqb b b) (same_text t t) (eqb_refl b) (same-refl t)

same-eq : (t u : List ℕ) → T (same_text t u) → t ≡ u
same-eq [] [] h = refl
same-eq [] (c ∷ u) h = absurd h
same-eq (b ∷ t) [] h = absurd h
same-eq (b ∷ t) (c ∷ u) h = ap₂ {C = List ℕ} (λ x xs. x ∷ xs) (eqb→eq b c (and_left (eqb b c) (same_text t u) h)) (same-eq t u (and_right (eqb b c) (same_text t u) h))

any-at : (ts : List (List ℕ)) (n : ℕ) → n < length ts → T (any_text (get_or ts n []) ts)
unfolding any_text
any-at [] n l = absurd (omega (arith, l))
any-at (t ∷ ts) zero l = or_left (same_text t t) (any_text t ts) (same-refl t)
any-at (t ∷ ts) (suc n) l = or_right (same_text (get_or ts n []) t) (any_text (get_or ts n []) ts) (any-at ts n (omega (arith, l)))

not-behind : (t : List ℕ) (ts : List (List ℕ)) → not (any_text t ts) ≡ true → (n : ℕ) → n < length ts → t ≡ get_or ts n [] → ⊥
not-behind t ts h n l e = T_not (any_text t ts) (is_T _ h) (subst (λ (u : List ℕ). T (any_text u ts)) (sym e) (any-at ts n l))

apart : (ts : List (List ℕ)) → distinct ts ≡ true → (m n : ℕ) → m < length ts → n < length ts → get_or ts m [] ≡ get_or ts n [] → m ≡ n
unfolding distinct
apart [] h m n l k e = absurd (omega (arith, l))
apart (t ∷ ts) h zero zero l k e = refl
apart (t ∷ ts) h zero (suc n) l k e = absurd (not-behind t ts (Parts.both (not (any_text t ts)) (distinct ts) h).0 n (omega (arith, k)) e)
apart (t ∷ ts) h (suc m) zero l k e = absurd (not-behind t ts (Parts.both (not (any_text t ts)) (distinct ts) h).0 m (omega (arith, l)) (sym e))
apart (t ∷ ts) h (suc m) (suc n) l k e = ap suc (apart ts (Parts.both (not (any_text t ts)) (distinct ts) h).1 m n (omega (arith, l)) (omega (arith, k)) e)

module _ (ts : List (List ℕ)) (h : distinct ts ≡ true) where
  pub text-eqb : (m n : ℕ) → m < length ts → n < length ts → eqb m n ≡ same_text (get_or ts m []) (get_or ts n [])
  text-eqb m n l k = go (eqb m n) refl
    where
      other : (q : Bool) → same_text (get_or ts m []) (get_or ts n []) ≡ q → (m ≡ n → ⊥) → false ≡ q
      other true d f = absurd (f (apart ts h m n l k (same-eq (get_or ts m []) (get_or ts n []) (is_T _ d))))
      other false d f = refl

      go : (p : Bool) → eqb m n ≡ p → p ≡ same_text (get_or ts m []) (get_or ts n [])
      go true e = sym (is_true (same_text (get_or ts m []) (get_or ts n [])) (subst (λ (i : ℕ). T (same_text (get_or ts m []) (get_or ts i []))) (eqb-true m n e) (same-refl (get_or ts m []))))
      go false e = other (same_text (get_or ts m []) (get_or ts n [])) refl (eqb-false m n e)

  any-of : (m : ℕ) → m < length ts → (ns : List ℕ) → All (λ (n : ℕ). n < length ts) ns → any_text (get_or ts m []) (map (λ (n : ℕ). get_or ts n []) ns) ≡ member m ns
  unfolding any_text
  any-of m l [] k = refl
  any-of m l (n ∷ ns) k = ap₂ ◌||◌ (sym (text-eqb m n l k.0)) (any-of m l ns k.1) ∙ go (eqb m n)
    where
      go : (p : Bool) → (p || member m ns) ≡ elim p as (λ x. Bool) [ true ↦ true | false ↦ member m ns ]
      go true = refl
      go false = refl

  -- so some of them, each once, are such texts again
  pub some_distinct : (ns : List ℕ) → All (λ (n : ℕ). n < length ts) ns → Lone ns → distinct (map (λ (n : ℕ). get_or ts n []) ns) ≡ true
  unfolding distinct
  some_distinct [] k o = refl
  some_distinct (n ∷ ns) k o = ap₂ {C = Bool} (λ (p q : Bool). not p && q) (any-of n k.0 ns k.1 ∙ o.0) (some_distinct ns k.1 o.1)

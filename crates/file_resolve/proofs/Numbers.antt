-- Numbers of which each stands once, in the order of first use, and identifiers that are told apart by one number. Assumes nothing.
use mathlib.Core.Path.{◌≡◌, refl, sym, ap, ap₂, ◌∙◌}
use mathlib.Core.Bool.{Bool, true, false, ◌&&◌, ◌||◌, not}
use mathlib.Core.List.{List, [], ◌∷◌, ◌++◌}
use Prim.Native.Nat.{ℕ, suc, ◌<◌}
use native.Mathlib.Omega.{arith}
use lib.Dec.{eqb}
use lib.ListN.{length, get_or}
use borrow.Author.Tests.{eq-eqb, clash}
use Rattle.def_tree.specs.Base.{pick, member}
use Rattle.def_file.specs.declared.Raw.{Raw}
use Rattle.def_file.specs.Script.{zero_node, has_id, same_id, known, enter, enter_all, place_of}
use Rattle.def_canon.specs.Canon.{first_use, first_uses, index_of}
use Rattle.laws_canon.proofs.Uses.{AllZip}
use Rattle.file_resolve.specs.Load.{with_number}

-- a number behind others
pub member-snoc : (i : ℕ) (ns : List ℕ) (n : ℕ) → member i (ns ++ (n ∷ [])) ≡ (member i ns || eqb i n)
member-snoc i [] n = go (eqb i n)
  where
    go : (p : Bool) → elim p as (λ x. Bool) [ true ↦ true | false ↦ false ] ≡ p
    go true = refl
    go false = refl
member-snoc i (k ∷ ns) n = go (eqb i k) (member-snoc i ns n)
  where
    go : (p : Bool) → member i (ns ++ (n ∷ [])) ≡ (member i ns || eqb i n) → elim p as (λ x. Bool) [ true ↦ true | false ↦ member i (ns ++ (n ∷ [])) ] ≡ (elim p as (λ x. Bool) [ true ↦ true | false ↦ member i ns ] || eqb i n)
    go true h = refl
    go false h = h

pub index-old : (i : ℕ) (ns : List ℕ) (n : ℕ) → member i ns ≡ true → index_of i (ns ++ (n ∷ [])) ≡ index_of i ns
index-old i [] n e = absurd (clash e)
index-old i (k ∷ ns) n e = go (eqb i k) e (index-old i ns n)
  where
    go : (p : Bool) → elim p as (λ x. Bool) [ true ↦ true | false ↦ member i ns ] ≡ true → (member i ns ≡ true → index_of i (ns ++ (n ∷ [])) ≡ index_of i ns) → elim p as (λ x. ℕ) [ true ↦ 0 | false ↦ suc (index_of i (ns ++ (n ∷ []))) ] ≡ elim p as (λ x. ℕ) [ true ↦ 0 | false ↦ suc (index_of i ns) ]
    go true e h = refl
    go false e h = ap suc (h e)

pub index-new : (i : ℕ) (ns : List ℕ) → member i ns ≡ false → index_of i (ns ++ (i ∷ [])) ≡ length ns
index-new i [] e = ap {B = ℕ} (λ (b : Bool). elim b [ true ↦ 0 | false ↦ 1 ]) (eq-eqb i i refl)
index-new i (k ∷ ns) e = go (eqb i k) e (index-new i ns)
  where
    go : (p : Bool) → elim p as (λ x. Bool) [ true ↦ true | false ↦ member i ns ] ≡ false → (member i ns ≡ false → index_of i (ns ++ (i ∷ [])) ≡ length ns) → elim p as (λ x. ℕ) [ true ↦ 0 | false ↦ suc (index_of i (ns ++ (i ∷ []))) ] ≡ suc (length ns)
    go true e h = absurd (clash (sym e))
    go false e h = ap suc (h e)

pub with-old : (n : ℕ) (ns : List ℕ) → member n ns ≡ true → with_number n ns ≡ ns
with-old n ns e = rw e refl

pub with-new : (n : ℕ) (ns : List ℕ) → member n ns ≡ false → with_number n ns ≡ ns ++ (n ∷ [])
with-new n ns e = rw e refl

-- identifiers of which two are one exactly if their numbers are
module _ (of : Raw → ℕ) (Good : Raw → Type 0) (same : (x y : Raw) → Good x → Good y → same_id x y ≡ eqb (of x) (of y)) where
  abbrev Numbered : Raw → ℕ → Type 0
  Numbered y n = Good y × (of y ≡ n)

  known-is : (x : Raw) → Good x → (ids : List Raw) (ns : List ℕ) → AllZip Numbered ids ns → known x ids ≡ member (of x) ns
  known-is x g [] [] h = refl
  known-is x g [] (n ∷ ns) h = absurd h
  known-is x g (y ∷ ys) [] h = absurd h
  known-is x g (y ∷ ys) (n ∷ ns) h = ap₂ ◌||◌ (same x y g h.0.0 ∙ ap (eqb (of x)) h.0.1) (known-is x g ys ns h.1) ∙ go (eqb (of x) n)
    where
      go : (p : Bool) → (p || member (of x) ns) ≡ elim p as (λ z. Bool) [ true ↦ true | false ↦ member (of x) ns ]
      go true = refl
      go false = refl

  pub place-is : (x : Raw) → Good x → (ids : List Raw) (ns : List ℕ) → AllZip Numbered ids ns → place_of x ids ≡ index_of (of x) ns
  place-is x g [] [] h = refl
  place-is x g [] (n ∷ ns) h = absurd h
  place-is x g (y ∷ ys) [] h = absurd h
  place-is x g (y ∷ ys) (n ∷ ns) h = ap₂ {C = ℕ} (λ (p : Bool) (i : ℕ). elim p [ true ↦ 0 | false ↦ suc i ]) (same x y g h.0.0 ∙ ap (eqb (of x)) h.0.1) (place-is x g ys ns h.1)

  behind : (x : Raw) → Good x → (ids : List Raw) (ns : List ℕ) → AllZip Numbered ids ns → AllZip Numbered (ids ++ (x ∷ [])) (ns ++ (of x ∷ []))
  behind x g [] [] h = ((g, refl), tt)
  behind x g [] (n ∷ ns) h = absurd h
  behind x g (y ∷ ys) [] h = absurd h
  behind x g (y ∷ ys) (n ∷ ns) h = (h.0, behind x g ys ns h.1)

  pub enter-numbered : (x : Raw) → (has_id x ≡ true → Good x) → (ids : List Raw) (ns : List ℕ) → AllZip Numbered ids ns → AllZip Numbered (enter ids x) (first_use has_id of ns x)
  enter-numbered x g ids ns h = go (has_id x) refl
    where
      new : (q : Bool) → Good x → AllZip Numbered (pick (not q) (ids ++ (x ∷ [])) ids) (pick (not q) (ns ++ (of x ∷ [])) ns)
      new true k = h
      new false k = behind x k ids ns h

      go : (p : Bool) → has_id x ≡ p → AllZip Numbered (pick (p && not (known x ids)) (ids ++ (x ∷ [])) ids) (pick (p && not (member (of x) ns)) (ns ++ (of x ∷ [])) ns)
      go true e = rw (known-is x (g e) ids ns h) (new (member (of x) ns) (g e))
      go false e = h

  pub ids-numbered : (xs : List Raw) → ((k : ℕ) → k < length xs → has_id (get_or xs k zero_node) ≡ true → Good (get_or xs k zero_node)) → (ids : List Raw) (ns : List ℕ) → AllZip Numbered ids ns → AllZip Numbered (enter_all ids xs) (first_uses has_id of ns xs)
  unfolding enter_all first_uses
  ids-numbered [] g ids ns h = h
  ids-numbered (x ∷ xs) g ids ns h = ids-numbered xs (λ k l. g (suc k) (omega (arith, l))) (enter ids x) (first_use has_id of ns x) (enter-numbered x (g 0 (omega arith)) ids ns h)

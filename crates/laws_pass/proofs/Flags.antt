-- A tree with its bindings flagged has the shape of the tree. Assumes nothing.
use mathlib.Core.Path.{◌≡◌, refl, sym, ap, ap₂, subst}
use mathlib.Core.Bool.{Bool, true, false, ◌&&◌, ◌||◌}
use Prim.Native.Nat.{ℕ, suc, ◌+◌, max}
use lib.Dec.{T, eqb}
use Rattle.def_tree.specs.Base.{pick}
use Rattle.def_tree.specs.Tree.{length_f}
use Rattle.def_file.specs.declared.kinds.Row.{Row}
use Rattle.def_file.specs.Kinds.{allows, row_of, child_of, form_ok, count_ok}
use Rattle.def_pass.specs.Tree.{Tree, Forest, node, nil, cons, kind, kids, count, counts, height, heights}
use Rattle.def_pass.specs.Twice.{is_function, is_named, twice, flag, flags, flag_named}
use Rattle.laws_pass.specs.Readable.{form_of, row_at, Fits, FitsF}
use Rattle.laws_pass.proofs.Tests.{elim-ok}

-- what holds of every way to flag some trees
abbrev pub inner : (ℕ → Bool) → ℕ → ℕ → Forest → Forest
inner b k f ts = elim (is_function k) [ true ↦ elim (is_named k f) [ true ↦ flag_named b ts | false ↦ flags (twice ts) ts ] | false ↦ flags b ts ]

pub by_way : (P : Forest → Type 0) (b : ℕ → Bool) (k f : ℕ) (ts : Forest) → P (flag_named b ts) → P (flags (twice ts) ts) → P (flags b ts) → P (inner b k f ts)
by_way P b k f ts x y z = elim-ok P (is_function k) (elim (is_named k f) [ true ↦ flag_named b ts | false ↦ flags (twice ts) ts ]) (flags b ts) (elim-ok P (is_named k f) (flag_named b ts) (flags (twice ts) ts) x y) z

mutual
  pub flag-height : (b : ℕ → Bool) (t : Tree) → height (flag b t) ≡ height t
  flag-height b (node k f a ts) = ap (λ (n : ℕ). 1 + n) (by_way (λ us. heights us ≡ heights ts) b k f ts (named-heights b ts) (flag-heights (twice ts) ts) (flag-heights b ts))

  flag-heights : (b : ℕ → Bool) (ts : Forest) → heights (flags b ts) ≡ heights ts
  flag-heights b nil = refl
  flag-heights b (cons t ts) = ap₂ max (flag-height b t) (flag-heights b ts)

  named-heights : (b : ℕ → Bool) (ts : Forest) → heights (flag_named b ts) ≡ heights ts
  named-heights b nil = refl
  named-heights b (cons t ts) = ap₂ max (flag-height b t) (flag-heights (twice ts) ts)

mutual
  pub flag-count : (b : ℕ → Bool) (t : Tree) → count (flag b t) ≡ count t
  flag-count b (node k f a ts) = ap suc (by_way (λ us. counts us ≡ counts ts) b k f ts (named-counts b ts) (flag-counts (twice ts) ts) (flag-counts b ts))

  flag-counts : (b : ℕ → Bool) (ts : Forest) → counts (flags b ts) ≡ counts ts
  flag-counts b nil = refl
  flag-counts b (cons t ts) = ap₂ ◌+◌ (flag-count b t) (flag-counts b ts)

  named-counts : (b : ℕ → Bool) (ts : Forest) → counts (flag_named b ts) ≡ counts ts
  named-counts b nil = refl
  named-counts b (cons t ts) = ap₂ ◌+◌ (flag-count b t) (flag-counts (twice ts) ts)

pub flag-length : (b : ℕ → Bool) (ts : Forest) → length_f (flags b ts) ≡ length_f ts
flag-length b nil = refl
flag-length b (cons t ts) = ap suc (flag-length b ts)

pub named-length : (b : ℕ → Bool) (ts : Forest) → length_f (flag_named b ts) ≡ length_f ts
named-length b nil = refl
named-length b (cons t ts) = ap suc (flag-length (twice ts) ts)

inner-length : (b : ℕ → Bool) (k f : ℕ) (ts : Forest) → length_f (inner b k f ts) ≡ length_f ts
inner-length b k f ts = by_way (λ us. length_f us ≡ length_f ts) b k f ts (named-length b ts) (flag-length (twice ts) ts) (flag-length b ts)

-- kind and number of children
pub flag-allows : (b : ℕ → Bool) (t : Tree) (P : ℕ → ℕ → Type 0) → P (kind t) (length_f (kids t)) → P (kind (flag b t)) (length_f (kids (flag b t)))
flag-allows b (node k f a ts) P h = subst (P k) (sym (inner-length b k f ts)) h

-- the form by which a row is found
same-form : (b : ℕ → Bool) (k f a : ℕ) → form_of k (pick (eqb k 20 && b a) (f + 2) f) ≡ form_of k f
same-form b k f a = go (eqb k 20) (eqb k 21) (b a)
  where
    go : (p q c : Bool) → pick (p || q) 0 (pick (p && c) (f + 2) f) ≡ pick (p || q) 0 f
    go true q c = refl
    go false true c = refl
    go false false c = refl

mutual
  pub flag-fits : (b : ℕ → Bool) (t : Tree) → Fits t → Fits (flag b t)
  flag-fits b (node k f a ts) o =
      let us = inner b k f ts in
      let g = pick (eqb k 20 && b a) (f + 2) f in
      subst (λ (h : ℕ). T (form_ok (row_of k h) h && count_ok (row_of k h) (length_f us)) × FitsF (row_of k h) (length_f us) 0 us) (sym (same-form b k f a))
      (subst (λ (n : ℕ). T (form_ok (row_at k f) (form_of k f) && count_ok (row_at k f) n) × FitsF (row_at k f) n 0 us) (sym (inner-length b k f ts))
      (o.0, by_way (λ vs. FitsF (row_at k f) (length_f ts) 0 vs) b k f ts (named-fit b (row_at k f) (length_f ts) 0 ts o.1) (flags-fit (twice ts) (row_at k f) (length_f ts) 0 ts o.1) (flags-fit b (row_at k f) (length_f ts) 0 ts o.1)))

  flags-fit : (b : ℕ → Bool) (r : Row) (n i : ℕ) (ts : Forest) → FitsF r n i ts → FitsF r n i (flags b ts)
  flags-fit b r n i nil o = tt
  flags-fit b r n i (cons t ts) o = (flag-allows b t (λ k m. T (allows (child_of r n i) k m)) o.0, flag-fits b t o.1, flags-fit b r n (suc i) ts o.2)

  named-fit : (b : ℕ → Bool) (r : Row) (n i : ℕ) (ts : Forest) → FitsF r n i ts → FitsF r n i (flag_named b ts)
  named-fit b r n i nil o = tt
  named-fit b r n i (cons t ts) o = (flag-allows b t (λ k m. T (allows (child_of r n i) k m)) o.0, flag-fits b t o.1, flags-fit (twice ts) r n (suc i) ts o.2)

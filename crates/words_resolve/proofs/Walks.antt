-- The numbers of trees, written one behind another. Assumes nothing.
use mathlib.Core.Path.{◌≡◌, refl, sym, ap, ap₂, ◌∙◌}
use mathlib.Core.List.{List, [], ◌∷◌, ◌++◌, append_assoc}
use Prim.Native.Nat.{ℕ, suc, ◌+◌}
use native.Mathlib.Omega.{arith}
use lib.ListN.{length, set, length-append, length-set}
use Rattle.def_tree.proofs.Place.{append_f}
use Rattle.def_pass.specs.Tree.{Tree, Forest, node, nil, cons, count, counts}
use Rattle.words_resolve.specs.Walk.{nums, nums_f, writes}

pub nums-append : (us ts : Forest) → nums_f (append_f us ts) ≡ nums_f us ++ nums_f ts
nums-append nil ts = refl
nums-append (cons u us) ts = ap (λ (xs : List ℕ). nums u ++ xs) (nums-append us ts) ∙ sym (append_assoc (nums u) (nums_f us) (nums_f ts))

mutual
  pub nums-length : (t : Tree) → length (nums t) ≡ count t
  nums-length (node k f a ts) = ap suc (nums_f-length ts)

  pub nums_f-length : (ts : Forest) → length (nums_f ts) ≡ counts ts
  nums_f-length nil = refl
  nums_f-length (cons t ts) = length-append (nums t) (nums_f ts) ∙ ap₂ ◌+◌ (nums-length t) (nums_f-length ts)

pub writes-append : (out : List ℕ) (i : ℕ) (xs ys : List ℕ) → writes out i (xs ++ ys) ≡ writes (writes out i xs) (i + length xs) ys
writes-append out i [] ys = (let e : i ≡ i + 0 = omega arith in ap (λ (j : ℕ). writes out j ys) e)
writes-append out i (x ∷ xs) ys = writes-append (set out i x) (i + 1) xs ys ∙ (let e : i + 1 + length xs ≡ i + suc (length xs) = omega arith in ap (λ (j : ℕ). writes (writes (set out i x) (i + 1) xs) j ys) e)

pub writes-length : (out : List ℕ) (i : ℕ) (xs : List ℕ) → length (writes out i xs) ≡ length out
writes-length out i [] = refl
writes-length out i (x ∷ xs) = writes-length (set out i x) (i + 1) xs ∙ length-set out i x

-- The identifiers of a script: each node's identifier has a number below their count, and that number gives the identifier back.
-- Assumes nothing.
use mathlib.Core.Path.{◌≡◌, refl, sym, subst}
use mathlib.Core.Bool.{Bool, true, false, ◌&&◌, ◌||◌, not}
use mathlib.Core.List.{List, [], ◌∷◌, ◌++◌}
use Prim.Native.Nat.{ℕ, zero, suc, ◌<◌, suc-le-suc, zero-le}
use native.Mathlib.Nat.{le_of_suc-le-suc, not-suc-le-zero}
use lib.Dec.{T, eqb, eqb_refl}
use lib.ListN.{length, get_or}
use Rattle.def_tree.specs.Base.{pick}
use Rattle.def_file.specs.declared.Raw.{Raw}
use Rattle.def_file.specs.Script.{Script, has_id, same_id, known, enter, enter_all, idents, place_of, zero_node, node_at}
use Rattle.def_tree.proofs.Tests.{is_true, is_T, both, or_left, or_right}

pub same_id-refl : (x : Raw) → T (same_id x x)
same_id-refl x = both (eqb x.text x.text) (eqb x.bits x.bits) (eqb_refl x.text) (eqb_refl x.bits)

-- an identifier that is known has a place, and stands there
place-lt : (x : Raw) (ys : List Raw) → T (known x ys) → place_of x ys < length ys
place-lt x [] t = absurd t
place-lt x (y ∷ ys) t = go (same_id x y) t (place-lt x ys)
  where
    go : (p : Bool) → T (p || known x ys) → (T (known x ys) → place_of x ys < length ys) → elim p [ true ↦ 0 | false ↦ suc (place_of x ys) ] < suc (length ys)
    go true t h = suc-le-suc zero-le
    go false t h = suc-le-suc (h t)

place_is : (x : Raw) (ys : List Raw) → T (known x ys) → T (same_id x (get_or ys (place_of x ys) zero_node))
place_is x [] t = absurd t
place_is x (y ∷ ys) t = go (same_id x y) refl t (place_is x ys)
  where
    go : (p : Bool) → same_id x y ≡ p → T (p || known x ys) → (T (known x ys) → T (same_id x (get_or ys (place_of x ys) zero_node))) → T (same_id x (get_or (y ∷ ys) (elim p [ true ↦ 0 | false ↦ suc (place_of x ys) ]) zero_node))
    go true e t h = is_T (same_id x y) e
    go false e t h = h t

-- what is known stays known
known_more : (x : Raw) (ys : List Raw) (z : Raw) → T (known x ys) → T (known x (ys ++ (z ∷ [])))
known_more x [] z t = absurd t
known_more x (y ∷ ys) z t = go (same_id x y) t (known_more x ys z)
  where
    go : (p : Bool) → T (p || known x ys) → (T (known x ys) → T (known x (ys ++ (z ∷ [])))) → T (p || known x (ys ++ (z ∷ [])))
    go true t h = tt
    go false t h = h t

known-new : (x : Raw) (ys : List Raw) → T (known x (ys ++ (x ∷ [])))
known-new x [] = or_left (same_id x x) false (same_id-refl x)
known-new x (y ∷ ys) = or_right (same_id x y) (known x (ys ++ (x ∷ []))) (known-new x ys)

known-enter : (x : Raw) (ys : List Raw) (z : Raw) → T (known x ys) → T (known x (enter ys z))
known-enter x ys z t = go (has_id z && not (known z ys))
  where
    go : (p : Bool) → T (known x (pick p (ys ++ (z ∷ [])) ys))
    go true = known_more x ys z t
    go false = t

enter-known : (x : Raw) (ys : List Raw) → T (has_id x) → T (known x (enter ys x))
enter-known x ys t = subst (λ p. T (known x (pick (p && not (known x ys)) (ys ++ (x ∷ [])) ys))) (sym (is_true (has_id x) t)) (go (known x ys) refl)
  where
    go : (p : Bool) → known x ys ≡ p → T (known x (pick (not p) (ys ++ (x ∷ [])) ys))
    go true e = is_T (known x ys) e
    go false e = known-new x ys

known-all : (x : Raw) (ys zs : List Raw) → T (known x ys) → T (known x (enter_all ys zs))
unfolding enter_all
known-all x ys [] t = t
known-all x ys (z ∷ zs) t = known-all x (enter ys z) zs (known-enter x ys z t)

-- every node with an identifier is entered
all_known : (ys xs : List Raw) (i : ℕ) → i < length xs → T (has_id (get_or xs i zero_node)) → T (known (get_or xs i zero_node) (enter_all ys xs))
unfolding enter_all
all_known ys [] i l t = absurd (not-suc-le-zero l)
all_known ys (x ∷ xs) zero l t = known-all x (enter ys x) xs (enter-known x ys t)
all_known ys (x ∷ xs) (suc i) l t = all_known (enter ys x) xs i (le_of_suc-le-suc l) t

module _ (s : Script) (i : ℕ) (l : i < length s.nodes) (t : T (has_id (node_at s (suc i)))) where
  ident-known : T (known (node_at s (suc i)) (idents s))
  unfolding idents
  ident-known = all_known [] s.nodes i l t

  pub ident-lt : place_of (node_at s (suc i)) (idents s) < length (idents s)
  ident-lt = place-lt (node_at s (suc i)) (idents s) ident-known

  -- the number of a node's identifier gives that identifier
  pub ident-is : T (same_id (node_at s (suc i)) (get_or (idents s) (place_of (node_at s (suc i)) (idents s)) zero_node))
  ident-is = place_is (node_at s (suc i)) (idents s) ident-known

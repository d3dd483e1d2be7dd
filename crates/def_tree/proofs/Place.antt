-- A tree's place in the list of nodes: `onto pre xs`, with the nodes before it in `pre`, the last one first. So to step past a node, or
-- down to its children, is to compute: onto pre (c ∷ xs) is onto (c ∷ pre) xs. Assumes nothing.
use mathlib.Core.Path.{◌≡◌, refl, sym, ap, ◌∙◌}
use mathlib.Core.List.{List, [], ◌∷◌, ◌++◌, append_assoc}
use Prim.Native.Nat.{◌+◌}
use native.Mathlib.Omega.{arith}
use lib.ListN.{length, get_or, take, drop, set, length-append}
use lib.Seq.{take_at, drop_at, get_or_at, set_at, drop-drop}
use Rattle.def_tree.specs.Tree.{Tree, Forest, node, nil, cons, length_f, count, counts, Core, core, no_core, flat, flats, take_f, drop_f, plant}
use Rattle.def_tree.specs.Combine.{Flat, tree_at, forest_at, node_at}

abbrev pub onto : {A : Type 0} → List A → List A → List A
onto [] xs = xs
onto (c ∷ pre) xs = onto pre (c ∷ xs)

-- the nodes before what follows a tree
abbrev mutual
  pub past : Tree → List Core → List Core
  past (node k f a ts) pre = pasts ts (core k f (length_f ts) a ∷ pre)

  pub pasts : Forest → List Core → List Core
  pasts nil pre = pre
  pasts (cons t ts) pre = pasts ts (past t pre)

mutual
  pub onto-past : (t : Tree) (pre xs : List Core) → onto (past t pre) xs ≡ onto pre (flat t xs)
  onto-past (node k f a ts) pre xs = onto-pasts ts (core k f (length_f ts) a ∷ pre) xs

  pub onto-pasts : (ts : Forest) (pre xs : List Core) → onto (pasts ts pre) xs ≡ onto pre (flats ts xs)
  onto-pasts nil pre xs = refl
  onto-pasts (cons t ts) pre xs = onto-pasts ts (past t pre) xs ∙ onto-past t pre (flats ts xs)

mutual
  pub length-past : (t : Tree) (pre : List Core) → length (past t pre) ≡ length pre + count t
  length-past (node k f a ts) pre = length-pasts ts (core k f (length_f ts) a ∷ pre) ∙ omega arith

  pub length-pasts : (ts : Forest) (pre : List Core) → length (pasts ts pre) ≡ length pre + counts ts
  length-pasts nil pre = omega arith
  length-pasts (cons t ts) pre = length-pasts ts (past t pre) ∙ omega (arith, length-past t pre)

module _ {A : Type 0} where
  pub onto-append : (pre xs : List A) → onto pre xs ≡ onto pre [] ++ xs
  onto-append [] xs = refl
  onto-append (c ∷ pre) xs = onto-append pre (c ∷ xs) ∙ sym (ap (λ (l : List A). l ++ xs) (onto-append pre (c ∷ [])) ∙ append_assoc (onto pre []) (c ∷ []) xs)

  pub length-onto : (pre : List A) → length (onto pre []) ≡ length pre
  length-onto [] = refl
  length-onto (c ∷ pre) = ap length (onto-append pre (c ∷ [])) ∙ length-append (onto pre []) (c ∷ []) ∙ omega (arith, length-onto pre)

  pub drop-onto : (pre xs : List A) → drop (length pre) (onto pre xs) ≡ xs
  drop-onto pre xs = ap (drop (length pre)) (onto-append pre xs) ∙ drop_at (onto pre []) xs (length pre) (length-onto pre)

  pub take-onto : (pre xs : List A) → take (length pre) (onto pre xs) ≡ onto pre []
  take-onto pre xs = ap (take (length pre)) (onto-append pre xs) ∙ take_at (onto pre []) xs (length pre) (length-onto pre)

  pub get_d-onto : (pre : List A) (c : A) (xs : List A) (d : A) → get_or (onto pre (c ∷ xs)) (length pre) d ≡ c
  get_d-onto pre c xs d = ap (λ (l : List A). get_or l (length pre) d) (onto-append pre (c ∷ xs)) ∙ get_or_at (onto pre []) c xs d (length pre) (length-onto pre)

  pub set-onto : (pre : List A) (c : A) (xs : List A) (d : A) → set (onto pre (c ∷ xs)) (length pre) d ≡ onto pre (d ∷ xs)
  set-onto pre c xs d =
      ap (λ (l : List A). set l (length pre) d) (onto-append pre (c ∷ xs)) ∙ set_at (onto pre []) c xs d (length pre) (length-onto pre) ∙ sym (onto-append pre (d ∷ xs))

-- the list read back
abbrev pub append_f : Forest → Forest → Forest
append_f nil us = us
append_f (cons t ts) us = cons t (append_f ts us)

pub take-append_f : (ts us : Forest) → take_f (length_f ts) (append_f ts us) ≡ ts
take-append_f nil us = refl
take-append_f (cons t ts) us = ap (cons t) (take-append_f ts us)

pub drop-append_f : (ts us : Forest) → drop_f (length_f ts) (append_f ts us) ≡ us
drop-append_f nil us = refl
drop-append_f (cons t ts) us = drop-append_f ts us

mutual
  pub plant-flat : (t : Tree) (xs : List Core) → plant (flat t xs) ≡ cons t (plant xs)
  plant-flat (node k f a ts) xs = rw (plant-flats ts xs, take-append_f ts (plant xs), drop-append_f ts (plant xs)) refl

  pub plant-flats : (ts : Forest) (xs : List Core) → plant (flats ts xs) ≡ append_f ts (plant xs)
  plant-flats nil xs = refl
  plant-flats (cons t ts) xs = plant-flat t (flats ts xs) ∙ ap (cons t) (plant-flats ts xs)

-- past the nodes of a tree
mutual
  pub drop-flat : (t : Tree) (xs : List Core) → drop (count t) (flat t xs) ≡ xs
  drop-flat (node k f a ts) xs = drop-flats ts xs

  pub drop-flats : (ts : Forest) (xs : List Core) → drop (counts ts) (flats ts xs) ≡ xs
  drop-flats nil xs = refl
  drop-flats (cons t ts) xs = sym (drop-drop (counts ts) (count t) (flat t (flats ts xs))) ∙ ap (drop (counts ts)) (drop-flat t (flats ts xs)) ∙ drop-flats ts xs

pub drop_here : (t : Tree) (pre post : List Core) → drop (length pre + count t) (onto pre (flat t post)) ≡ post
drop_here t pre post = sym (drop-drop (count t) (length pre) (onto pre (flat t post))) ∙ ap (drop (count t)) (drop-onto pre (flat t post)) ∙ drop-flat t post

pub drops-here : (ts : Forest) (pre post : List Core) → drop (length pre + counts ts) (onto pre (flats ts post)) ≡ post
drops-here ts pre post = sym (drop-drop (counts ts) (length pre) (onto pre (flats ts post))) ∙ ap (drop (counts ts)) (drop-onto pre (flats ts post)) ∙ drop-flats ts post

-- the state with xs behind pre
module _ {S : Type 0} where
  abbrev pub at : List Core → List Core → S → Flat S
  at pre xs s = record { nodes = onto pre xs; rest = s }

  pub at-past : (t : Tree) (pre xs : List Core) (s : S) → at pre (flat t xs) s ≡ at (past t pre) xs s
  at-past t pre xs s = ap (λ (l : List Core). record { nodes = l; rest = s }) (sym (onto-past t pre xs))

  pub tree-here : (t : Tree) (pre post : List Core) (s : S) → tree_at (at pre (flat t post) s) (length pre) ≡ t
  unfolding tree_at
  tree-here t pre post s = rw (drop-onto pre (flat t post), plant-flat t post) refl

  pub node-here : (c : Core) (pre xs : List Core) (s : S) → node_at (at pre (c ∷ xs) s) (length pre) ≡ c
  node-here c pre xs s = get_d-onto pre c xs no_core

  pub forest-here : (ts : Forest) (pre post : List Core) (s : S) → forest_at (at pre (flats ts post) s) (length_f ts) (length pre) ≡ ts
  unfolding forest_at
  forest-here ts pre post s = rw (drop-onto pre (flats ts post), plant-flats ts post) (take-append_f ts (plant post))

-- A table of 48 times 48 entries, one for each parent kind and child kind, and the pairs of parent and child in a list of nodes.
-- Assumes nothing: these are definitions.
use Rattle.std.specs.Prelude.{Bool, true, false, ◌&&◌, List, [], ◌∷◌, ℕ, zero, suc, ◌+◌, ◌-◌, ◌*◌, eqb, leb, get_or, Option, Some, None}
use Rattle.def_file.specs.declared.Raw.{Raw}

-- does the table T allow a node of kind c under one of kind p: its entry is 1
abbrev pub allowed : List ℕ → ℕ → ℕ → Bool
allowed T p c = leb 1 p && leb p 48 && leb 1 c && leb c 48 && eqb (get_or T ((p - 1) * 48 + (c - 1)) 0) 1

-- the same of a parent that need not be there: the script has none
abbrev pub under : List ℕ → Option ℕ → ℕ → Bool
under T None c = true
under T (Some p) c = allowed T p c

-- the parents at the places of a node's m children, before qs; k is the node's kind
abbrev pub parents : ℕ → ℕ → List (Option ℕ) → List (Option ℕ)
parents k zero qs = qs
parents k (suc m) qs = Some k ∷ parents k m qs

-- the table allows each node under its parent; the parents at the places that are still to be filled, the next one first
unfoldable pub pairs : List ℕ → List (Option ℕ) → List Raw → Bool
pairs T qs [] = true
pairs T [] (x ∷ xs) = true
pairs T (q ∷ qs) (x ∷ xs) = elim (under T q x.kind) [ true ↦ pairs T (parents x.kind x.arity qs) xs | false ↦ false ]

-- Examples worked out by hand from document 01's list and request 4, one `refl` each: which kind stands under which, pairs of nodes, and lent tables.
use Rattle.std.specs.Prelude.{◌≡◌, refl, Bool, true, false, ◌&&◌, List, [], ◌∷◌, ◌++◌, map, ℕ, ◌+◌, ◌/◌, ◌%◌, eqb, replicate, Some, None}
use Rattle.std.specs.List.{list_any, range_with_len}
use Rattle.def_tree.specs.Base.{to_nat}
use Rattle.def_file.specs.declared.Raw.{Raw}
use Rattle.def_kinds.specs.Stands.{stands}
use Rattle.def_kinds.specs.Pairs.{pairs}
use Rattle.def_kinds.specs.Lent.{is_table, within}

-- those of the kinds cs that stand under p
abbrev pub those : ℕ → List ℕ → List Bool
those p cs = map (stands p) cs

-- a script under none; a place for n children, a first, a last, one between and an only one; a form past 0; one declarator in a head
pub somewhere :
    those 1 (3 ∷ []) ++ those 4 (21 ∷ []) ++ those 7 (20 ∷ 45 ∷ 48 ∷ 2 ∷ []) ++ those 9 (42 ∷ 16 ∷ []) ++ those 12 (5 ∷ 21 ∷ 12 ∷ []) ++ those 13 (5 ∷ 46 ∷ []) ++ those 16 (2 ∷ 17 ∷ [])
    ++ those 19 (3 ∷ 41 ∷ []) ++ those 31 (21 ∷ 37 ∷ 38 ∷ []) ++ those 33 (20 ∷ 38 ∷ 45 ∷ 21 ∷ []) ++ those 39 (20 ∷ 48 ∷ 2 ∷ []) ++ those 40 (48 ∷ 2 ∷ 39 ∷ []) ++ those 45 (47 ∷ []) ++ those 48 (46 ∷ 26 ∷ [])
    ≡ replicate 33 true
unfolding stands
somewhere = refl

-- no place; a node without children; a place for another class; numbers of no kind
pub nowhere :
    those 1 (1 ∷ 6 ∷ 17 ∷ 19 ∷ 21 ∷ []) ++ those 3 (3 ∷ 21 ∷ []) ++ those 4 (20 ∷ 29 ∷ 45 ∷ []) ++ those 6 (48 ∷ 47 ∷ []) ++ those 7 (21 ∷ 47 ∷ []) ++ those 13 (6 ∷ []) ++ those 17 (48 ∷ 21 ∷ [])
    ++ those 20 (20 ∷ []) ++ those 28 (47 ∷ 21 ∷ []) ++ those 31 (20 ∷ []) ++ those 33 (48 ∷ 47 ∷ []) ++ those 45 (20 ∷ 29 ∷ []) ++ those 46 (21 ∷ 47 ∷ []) ++ those 48 (48 ∷ []) ++ those 0 (1 ∷ []) ++ those 49 (21 ∷ []) ++ those 2 (0 ∷ 49 ∷ [])
    ≡ replicate 32 false
unfolding stands
nowhere = refl

-- the table that allows these pairs alone
abbrev pub of_pairs : List (ℕ × ℕ) → List ℕ
of_pairs ps = map (λ n. to_nat (list_any (λ (p : ℕ × ℕ). eqb p.0 (n / 48 + 1) && eqb p.1 (n % 48 + 1)) ps)) (range_with_len 0 2304)

abbrev pub node : ℕ → ℕ → Raw
node k n = record { kind = k; form = 0; arity = n; text = 0; bits = 0 }

-- `[7]; ;` and `;`: a node's children stand under it, and what follows them stands under the node before
abbrev pub script : List Raw
script = node 1 2 ∷ node 4 1 ∷ node 27 1 ∷ node 24 0 ∷ node 3 0 ∷ []

abbrev pub under_table : List (ℕ × ℕ) → Bool
under_table ps = pairs (of_pairs ps) (None ∷ []) script

pub paired :
    under_table ((1, 4) ∷ (4, 27) ∷ (27, 24) ∷ (1, 3) ∷ []) ∷ under_table ((1, 4) ∷ (4, 27) ∷ (27, 24) ∷ (4, 3) ∷ (27, 3) ∷ []) ∷ under_table ((4, 1) ∷ (27, 4) ∷ (24, 27) ∷ (3, 1) ∷ [])
    ∷ under_table ((1, 4) ∷ (4, 27) ∷ (27, 22) ∷ (1, 3) ∷ []) ∷ under_table ((1, 4) ∷ (27, 24) ∷ (1, 3) ∷ []) ∷ under_table [] ∷ pairs (of_pairs []) (None ∷ []) (node 1 0 ∷ [])
    ∷ pairs (replicate 2304 1) (Some 48 ∷ []) (node 48 0 ∷ []) ∷ pairs (replicate 2400 1) (Some 49 ∷ []) (node 1 0 ∷ []) ∷ pairs (replicate 2304 2) (Some 1 ∷ []) (node 3 0 ∷ []) ∷ []
    ≡ true ∷ false ∷ false ∷ false ∷ false ∷ false ∷ true ∷ true ∷ false ∷ false ∷ []
unfolding pairs
paired = refl

pub lent :
    is_table (replicate 2304 1) ∷ is_table (replicate 2303 0) ∷ is_table (replicate 2305 0) ∷ is_table (replicate 2303 0 ++ (2 ∷ [])) ∷ within (0 ∷ 1 ∷ []) (1 ∷ 1 ∷ []) ∷ within (1 ∷ 1 ∷ []) (1 ∷ 0 ∷ []) ∷ []
    ≡ true ∷ false ∷ false ∷ false ∷ true ∷ false ∷ []
lent = refl

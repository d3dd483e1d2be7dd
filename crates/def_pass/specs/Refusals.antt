-- Examples of the refusals, one `refl`.
use Rattle.std.specs.Prelude.{◌≡◌, refl, List, [], ◌∷◌, ℕ, zero, suc, set}
use Rattle.def_file.specs.declared.Raw.{Raw}
use Rattle.def_file.specs.Script.{Script}
use Rattle.def_file.specs.Write.{file}
use Rattle.def_pass.specs.Entry.{Entry, refused, passed, entry}
use Rattle.def_pass.specs.Table.{n}

-- the number of a refusal, 0 for none
abbrev pub refusal_of : Entry → ℕ
refusal_of (refused r) = r
refusal_of (passed l k c bs rs) = 0

abbrev pub on : List ℕ → ℕ
unfolding entry
on bytes = refusal_of (entry 16 16384 bytes 65536)

abbrev pub empty : Script
empty = record { nodes = n 1 0 0 0 0 ∷ []; texts = [] }

-- a name in k contexts
abbrev pub contexts : ℕ → List Raw
contexts zero = []
contexts (suc k) = n 21 0 0 0 k ∷ contexts k

-- the examples of the table of refusals (8: `Table.cases`; 7 and 9: crates/laws_examples), and the bound of row 10 from the other side
pub refusals :
    refusal_of (entry 0 16384 (file empty) 48)
    ∷ refusal_of (entry 17 16384 (file empty) 48)
    ∷ refusal_of (entry 1 16383 [] 0)
    ∷ on []
    ∷ on (set (file empty) 8 0)
    ∷ on (set (file empty) 4 49)
    ∷ on (file (record { nodes = n 1 0 0 0 0 ∷ []; texts = (97 ∷ []) ∷ (97 ∷ []) ∷ [] }))
    ∷ on (file (record { nodes = n 2 0 0 0 0 ∷ []; texts = [] }))
    -- for (var a, b in a) ; -- more than one declarator there
    ∷ on (file (record { nodes = n 1 0 1 0 0 ∷ n 13 0 3 0 0 ∷ n 5 0 2 0 0 ∷ n 6 0 1 0 0 ∷ n 20 0 0 0 0 ∷ n 6 0 1 0 0 ∷ n 20 0 0 1 0 ∷ n 21 0 0 0 0 ∷ n 3 0 0 0 0 ∷ []; texts = (97 ∷ []) ∷ (98 ∷ []) ∷ [] }))
    ∷ refusal_of (entry 16 16384 (file empty) 47)
    ∷ refusal_of (entry 16 16384 (file empty) 48)
    ∷ []
    ≡ 1 ∷ 1 ∷ 1 ∷ 2 ∷ 3 ∷ 4 ∷ 5 ∷ 6 ∷ 6 ∷ 10 ∷ 0 ∷ []
unfolding entry file
refusals = refl

-- Scripts under tables that allow a few pairs, and what is asked of a table, worked out by hand. One `refl` each.
use Rattle.std.specs.Prelude.{◌≡◌, refl, List, [], ◌∷◌, ◌++◌, ℕ, replicate}
use Rattle.def_file.specs.declared.Raw.{Raw}
use Rattle.def_file.specs.Script.{Script}
use Rattle.def_file.specs.Read.{Read, bad, script}
use Rattle.def_file.specs.Write.{file}
use Rattle.def_kinds.specs.Examples.{of_pairs}
use Rattle.def_pass.specs.Table.{n}
use Rattle.def_pass.specs.Refusals.{refusal_of, empty, contexts}
use Rattle.def_under.specs.Reading.{read_under}
use Rattle.def_under.specs.Entry.{entry_under}

-- the number of a refusal, 0 for a script
abbrev pub number_of : Read → ℕ
number_of (bad m) = m
number_of (script s) = 0

-- reading a script's file under the table that allows these pairs of parent and child alone
abbrev pub under : Script → List (ℕ × ℕ) → ℕ
unfolding read_under file
under s ps = number_of (read_under (of_pairs ps) (file s))

abbrev pub of_nodes : List Raw → Script
of_nodes xs = record { nodes = xs; texts = (97 ∷ []) ∷ [] }

-- [1];
abbrev pub one : Script
one = of_nodes (n 1 0 1 0 0 ∷ n 4 0 1 0 0 ∷ n 27 0 1 0 0 ∷ n 24 0 0 0 0 ∷ [])

-- ['a'];
abbrev pub text : Script
text = of_nodes (n 1 0 1 0 0 ∷ n 4 0 1 0 0 ∷ n 27 0 1 0 0 ∷ n 25 0 0 0 0 ∷ [])

-- each pair is asked for, of parent and child in this order; and a literal's kind is the file's
pub pairs :
    under one ((1, 4) ∷ (4, 27) ∷ (27, 24) ∷ []) ∷ under one ((4, 27) ∷ (27, 24) ∷ []) ∷ under one ((1, 4) ∷ (27, 24) ∷ []) ∷ under one ((1, 4) ∷ (4, 27) ∷ [])
    ∷ under one ((4, 1) ∷ (27, 4) ∷ (24, 27) ∷ []) ∷ under one ((1, 4) ∷ (4, 27) ∷ (27, 22) ∷ []) ∷ under text ((1, 4) ∷ (4, 27) ∷ (27, 24) ∷ []) ∷ under text ((1, 4) ∷ (4, 27) ∷ (27, 25) ∷ []) ∷ []
    ≡ 0 ∷ 6 ∷ 6 ∷ 6 ∷ 6 ∷ 6 ∷ 6 ∷ 0 ∷ []
unfolding read_under file
pairs = refl

-- var a = 1; -- the children of a declarator too
abbrev pub declared : Script
declared = of_nodes (n 1 0 1 0 0 ∷ n 5 0 1 0 0 ∷ n 6 0 2 0 0 ∷ n 20 0 0 0 0 ∷ n 24 0 0 0 0 ∷ [])

pub declarators :
    under declared ((1, 5) ∷ (5, 6) ∷ (6, 20) ∷ (6, 24) ∷ []) ∷ under declared ((1, 5) ∷ (5, 6) ∷ (6, 24) ∷ []) ∷ under declared ((1, 5) ∷ (5, 6) ∷ (6, 20) ∷ []) ∷ []
    ≡ 0 ∷ 6 ∷ 6 ∷ []
unfolding read_under file
declarators = refl

-- a([1], null); -- behind a list its node's next child stands under that node
abbrev pub called : Script
called = of_nodes (n 1 0 1 0 0 ∷ n 4 0 1 0 0 ∷ n 35 0 3 0 0 ∷ n 21 0 0 0 0 ∷ n 27 0 1 0 0 ∷ n 24 0 0 0 0 ∷ n 22 0 0 0 0 ∷ [])

pub behind :
    under called ((1, 4) ∷ (4, 35) ∷ (35, 21) ∷ (35, 27) ∷ (27, 24) ∷ (35, 22) ∷ []) ∷ under called ((1, 4) ∷ (4, 35) ∷ (35, 21) ∷ (35, 27) ∷ (27, 24) ∷ (27, 22) ∷ []) ∷ []
    ≡ 0 ∷ 6 ∷ []
unfolding read_under file
behind = refl

-- nothing is allowed: the empty script has no pair. And what else is 6 stays 6: a block for the script
pub none : under empty [] ∷ under one [] ∷ under (of_nodes (n 2 0 0 0 0 ∷ [])) [] ∷ [] ≡ 0 ∷ 6 ∷ 6 ∷ []
unfolding read_under file
none = refl

-- 257 contexts of one name in a list, with a forbidden pair and without: 6 comes before 7
abbrev pub many : Script
many = of_nodes (n 1 0 1 0 0 ∷ n 4 0 1 0 0 ∷ n 27 0 257 0 0 ∷ contexts 257)

pub identifiers : under many ((1, 4) ∷ (4, 27) ∷ []) ∷ under many ((1, 4) ∷ (4, 27) ∷ (27, 21) ∷ []) ∷ [] ≡ 6 ∷ 7 ∷ []
unfolding read_under file
identifiers = refl

-- the entry, by its table: 1 before 14, 14 before 15, 15 before 2, and 2 after both
abbrev pub on : ℕ → List ℕ → List ℕ → ℕ
on runs T bytes = refusal_of (entry_under runs 16384 T bytes 48)

-- entries 0 and 3 are those of 1 under 1, which the constant table forbids, and of 4 under 1, which it allows
pub tables :
    on 0 [] [] ∷ on 16 [] [] ∷ on 16 (replicate 2303 0) [] ∷ on 16 (replicate 2305 0) [] ∷ on 16 (replicate 2303 0 ++ (2 ∷ [])) [] ∷ on 16 (255 ∷ replicate 2303 0) []
    ∷ on 16 (1 ∷ replicate 2302 0 ++ (2 ∷ [])) [] ∷ on 16 (1 ∷ replicate 2303 0) [] ∷ on 16 (replicate 2303 0 ++ (1 ∷ [])) [] ∷ on 16 (0 ∷ 0 ∷ 0 ∷ 1 ∷ replicate 2300 0) []
    ∷ on 16 (replicate 2304 0) (file empty) ∷ on 16 (replicate 2304 0) (file one) ∷ on 16 (of_pairs ((1, 4) ∷ (4, 27) ∷ (27, 24) ∷ [])) (file one) ∷ []
    ≡ 1 ∷ 14 ∷ 14 ∷ 14 ∷ 14 ∷ 14 ∷ 14 ∷ 15 ∷ 15 ∷ 2 ∷ 0 ∷ 6 ∷ 10 ∷ []
unfolding entry_under file
tables = refl

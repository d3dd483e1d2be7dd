-- Examples of the refusals by rows 7 and 9, one `refl`.
use Rattle.std.specs.Prelude.{◌≡◌, refl, [], ◌∷◌, ℕ}
use Rattle.def_file.specs.Script.{Script}
use Rattle.def_file.specs.Write.{file}
use Rattle.def_pass.specs.Entry.{entry}
use Rattle.def_pass.specs.Table.{n}
use Rattle.def_pass.specs.Refusals.{on, contexts}
use Rattle.laws_examples.specs.Stress.{full}

-- k contexts of one name in an array
abbrev pub many_ids : ℕ → Script
many_ids k = record { nodes = n 1 0 1 0 0 ∷ n 4 0 1 0 0 ∷ n 27 0 k 0 0 ∷ contexts k; texts = (97 ∷ []) ∷ [] }

-- the bound of row 7 from both sides
pub refusals : on (file (many_ids 257)) ∷ on (file (many_ids 256)) ∷ on (file full) ∷ [] ≡ 7 ∷ 0 ∷ 9 ∷ []
unfolding entry file
refusals = refl

-- How far antt computes: deep trees, nested right sides, a long script.
use Rattle.std.specs.Prelude.{List, [], ◌∷◌, ℕ, zero, suc, T, ◌≡◌, refl}
use Rattle.def_pass.specs.Tree.{Tree, nil, cons}
use Rattle.def_pass.specs.Walk.{core_pass}
use Rattle.def_file.specs.declared.Raw.{Raw}
use Rattle.def_file.specs.Script.{Script}
use Rattle.def_file.specs.Write.{file}
use Rattle.def_pass.specs.Script.{pass_file}
use Rattle.def_pass.specs.Table.{n, seen, refusal}
use Rattle.def_pass.specs.Imitations.{nest, many}
use Rattle.def_pass.specs.Cases.{stays, is_refused, right, script, do', name, array, op}

-- b && [b && [ .. ]]
abbrev pub ands : ℕ → Tree
ands zero = name 1
ands (suc n) = op 0 (name 1) (array (ands n))

-- root 1, statement 2, the arrays 3 to 199, the identifier 200
deep200 : T (right (stays (script (cons (do' (nest 197 (name 1))) nil))))
unfolding core_pass
deep200 = tt

deep201 : T (right (is_refused 8 (script (cons (do' (nest 198 (name 1))) nil))))
unfolding core_pass
deep201 = tt

ands4 : T (right (stays (script (cons (do' (ands 4)) nil))))
unfolding core_pass
ands4 = tt

ands8 : T (right (stays (script (cons (do' (ands 8)) nil))))
unfolding core_pass
ands8 = tt

many100 : T (right (stays (script (many 100))))
unfolding core_pass
many100 = tt

many500 : T (right (stays (script (many 500))))
unfolding core_pass
many500 = tt

-- row 9's example, as a file: `var x; x; .. x;` in 1,024 nodes
abbrev pub read_cnt : ℕ → List Raw
read_cnt zero = []
read_cnt (suc k) = n 4 0 1 0 0 ∷ n 21 0 0 0 0 ∷ read_cnt k

abbrev pub full : Script
full = record { nodes = n 1 0 511 0 0 ∷ n 5 0 1 0 0 ∷ n 6 0 1 0 0 ∷ n 20 0 0 0 0 ∷ read_cnt 510; texts = (120 ∷ []) ∷ [] }

row9 : seen (pass_file 16 (file full)) ≡ refusal 9
unfolding pass_file file
row9 = refl

-- Cases that the worthless versions of document 01's "Imitations of the pass" fail, beside the tables: run limits, runs that change the
-- tree after the first, and scripts at the limits of rows 8 and 9 that pass. One theorem.
use Rattle.std.specs.Prelude.{◌≡◌, refl, true, false, List, [], ◌∷◌, map, ℕ, zero, suc}
use Rattle.def_file.specs.declared.kind.Kind.TheVariants.{Empty, Arrow}
use Rattle.def_file.specs.Named.{number_of}
use Rattle.def_pass.specs.Tree.{Tree, Forest, node, nil, cons}
use Rattle.def_pass.specs.Walk.{core_pass}
use Rattle.def_pass.specs.Cases.{Answer, yes!, meets, script, decl, decl_to, do', name, bind, lit, array, assign, block, f1, f2, f3, f4}

-- n arrays around x
abbrev pub nest : ℕ → Tree → Tree
nest zero t = t
nest (suc n) t = array (nest n t)

-- n times x;
abbrev pub many : ℕ → Forest
many zero = nil
many (suc n) = cons (do' (name 1)) (many n)

-- a run limit, a script, and what is expected
pub record Limited : Type 0 where
  pub runs : ℕ
  pub input : Tree
  pub answer : Answer

abbrev pub limited : ℕ → Tree → Answer → Limited
limited n t a = record { runs = n; input = t; answer = a }

-- let y; var b = y; y = a; b; in three runs, of which the second changes the tree too
abbrev pub three_runs : Tree
three_runs = script (f4 (decl 1 1) (decl_to 0 2 (name 1)) (do' (assign 1 (name 3))) (do' (name 2)))

abbrev pub three_runs_end : Tree
three_runs_end = script (f4 (decl 1 1) (decl 0 2) (do' (assign 1 (name 3))) (do' (name 3)))

-- b = (p) => { let b = p; let b = [p]; let p = b; }: every run has the mark, and none changes the tree
abbrev pub always : Tree
always = script (f1 (do' (assign 1 (node (number_of Arrow) 0 0 (f2 (bind 2) (block (f3 (decl_to 1 1 (name 2)) (decl_to 1 1 (array (name 2))) (decl_to 1 2 (name 1)))))))))

-- x; 511 times, and an empty statement: 1,024 nodes
abbrev pub wide : Tree
wide = script (cons (node (number_of Empty) 0 0 nil) (many 511))

-- 200 deep
abbrev pub deep : Tree
deep = script (f1 (do' (nest 197 (name 1))))

abbrev pub limits : List Limited
limits =
    -- var x = 1; x; in one run: the mark is still set
    limited 1 (script (f2 (decl_to 0 1 (lit 5)) (do' (name 1)))) (yes! 1 true (script (f2 (decl 0 1) (do' (lit 5)))))
    ∷ limited 2 (script (f2 (decl_to 0 1 (lit 5)) (do' (name 1)))) (yes! 2 false (script (f2 (decl 0 1) (do' (lit 5)))))
    ∷ limited 16 three_runs (yes! 3 false three_runs_end)
    ∷ limited 5 always (yes! 5 true always)
    ∷ limited 16 always (yes! 16 true always)
    ∷ limited 16 wide (yes! 1 false wide)
    ∷ limited 16 deep (yes! 1 false deep)
    ∷ []

pub limits-right : map (λ (l : Limited). meets (core_pass l.runs l.input) l.answer) limits ≡ true ∷ true ∷ true ∷ true ∷ true ∷ true ∷ true ∷ []
unfolding core_pass
limits-right = refl

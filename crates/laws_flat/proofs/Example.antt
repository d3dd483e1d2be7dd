-- `var x = 1; x;` on the list of nodes: the initialiser has left its declarator, whose count fell to 1, and stands in the identifier's place.
use mathlib.Core.Path.{◌≡◌, refl, ◌∙◌}
use mathlib.Core.Bool.{false}
use mathlib.Core.List.{List, [], ◌∷◌}
use Rattle.def_tree.specs.Tree.{Core, core, flat}
use Rattle.def_pass.specs.Tree.{Tree}
use Rattle.def_pass.specs.Twice.{flagged}
use Rattle.def_pass.specs.Walk.{core_pass, start}
use Rattle.laws_flat.specs.WalkF.{runs_f, result_f, flat_outcome}
use Rattle.def_pass.specs.Cases.{script, decl_to, do', name, lit, f2}
use Rattle.laws_flat.proofs.Sim.{pass_same}

abbrev given : Tree
given = script (f2 (decl_to 0 1 (lit 5)) (do' (name 1)))

abbrev wanted : List Core
wanted = core 1 0 2 0 ∷ core 5 0 1 0 ∷ core 6 0 1 0 ∷ core 20 0 0 1 ∷ core 4 0 1 0 ∷ core 22 0 0 5 ∷ []

computed : flat_outcome (core_pass 16 given) ≡ result_f 2 false wanted ((1, false, 1) ∷ [])
unfolding core_pass
computed = refl

pub example : runs_f 16 0 (record { nodes = flat (flagged given) []; rest = start given }) ≡ result_f 2 false wanted ((1, false, 1) ∷ [])
example = pass_same 16 given ∙ computed

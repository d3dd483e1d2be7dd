-- A result is a tree that a file can have again: 200 deep, 1,024 nodes. Assumes nothing: these are definitions.
use Rattle.std.specs.Prelude.{ℕ, ◌≤◌}
use Rattle.def_pass.specs.Tree.{Tree, count, height}
use Rattle.def_pass.specs.Walk.{core_pass, Outcome, refused, result}

abbrev pub Small : Tree → Type 0
Small t = (height t ≤ 200) × (count t ≤ 1024)

abbrev pub SmallOut : Outcome → Type 0
SmallOut (refused n) = Unit {0}
SmallOut (result k c t ms) = Small t

-- of every run limit
abbrev pub StaysSmall : Type 0
StaysSmall = (n : ℕ) (t : Tree) → Small t → SmallOut (core_pass n t)

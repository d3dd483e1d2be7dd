-- A result is a script that rows 6 and 7 let through again, and its file is read again, as the result. Assumes nothing: these are definitions.
use Rattle.std.specs.Prelude.{◌≡◌, List, map, ℕ}
use Rattle.def_tree.specs.Tree.{Core}
use Rattle.def_file.specs.declared.Raw.{Raw}
use Rattle.def_file.specs.Script.{Script}
use Rattle.def_file.specs.Read.{Read, bad, script, checked, read}
use Rattle.def_pass.specs.Script.{Out, Answer, no!, yes!, back, pass_read}
use Rattle.def_pass.specs.Paired.{file_of}
use Rattle.laws_roundtrip.specs.Fits.{Bytes}

abbrev pub raws_of : Script → List Core → List Raw
raws_of s cs = map (λ (x : Out). x.raw) (map (back s) cs)

-- the script that the result's file has: its nodes, and the texts of s
abbrev pub outcome : Script → List Out → Script
outcome s xs = record { nodes = map (λ (x : Out). x.raw) xs; texts = s.texts }

-- its nodes fill the places (row 6), and it has 256 identifiers at most (row 7)
abbrev pub Refills : Script → List Out → Type 0
Refills s xs = checked (outcome s xs) ≡ script (outcome s xs)

abbrev pub RefillsIn : Script → Answer → Type 0
RefillsIn s (no! n) = Unit {0}
RefillsIn s (yes! k c xs rs) = Refills s xs

abbrev pub RefillsOf : ℕ → Read → Type 0
RefillsOf n (bad r) = Unit {0}
RefillsOf n (script s) = RefillsIn s (pass_read n (script s))

-- of every file and run limit
abbrev pub ResultFills : Type 0
ResultFills = (n : ℕ) (bs : List ℕ) → RefillsOf n (read bs)

-- its file
abbrev pub AgainIn : Script → Answer → Type 0
AgainIn s (no! n) = Unit {0}
AgainIn s (yes! k c xs rs) = read (file_of s xs) ≡ script (outcome s xs)

abbrev pub AgainOf : ℕ → Read → Type 0
AgainOf n (bad r) = Unit {0}
AgainOf n (script s) = AgainIn s (pass_read n (script s))

-- of every file and run limit
abbrev pub ReadsAgain : Type 0
ReadsAgain = (n : ℕ) (bs : List ℕ) → Bytes bs → AgainOf n (read bs)

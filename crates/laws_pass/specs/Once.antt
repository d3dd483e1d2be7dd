-- No identifier has two root bindings, and there are at most as many as identifiers. Assumes nothing: these are definitions.
use Rattle.std.specs.Prelude.{◌≡◌, false, List, [], ◌∷◌, ℕ, ◌≤◌, length}
use Rattle.def_file.specs.declared.Raw.{Raw}
use Rattle.def_file.specs.Script.{Script, same_id, idents}
use Rattle.def_file.specs.Read.{Read, bad, script, read}
use Rattle.def_pass.specs.Script.{Root, Answer, no!, yes!, pass_read, pass_file}

-- none of the root bindings has the identifier of x
abbrev pub Free : Raw → List Root → Type 0
Free x [] = Unit {0}
Free x (r ∷ rs) = (same_id x r.key ≡ false) × Free x rs

abbrev pub Once : List Root → Type 0
Once [] = Unit {0}
Once (r ∷ rs) = Free r.key rs × Once rs

abbrev pub OnceIn : Answer → Type 0
OnceIn (no! n) = Unit {0}
OnceIn (yes! k c xs rs) = Once rs

-- of every file and run limit: each root binding is listed once
abbrev pub RootsOnce : Type 0
RootsOnce = (runs : ℕ) (bs : List ℕ) → OnceIn (pass_file runs bs)

-- there are no more of them than identifiers in the script
abbrev pub FewIn : Script → Answer → Type 0
FewIn s (no! n) = Unit {0}
FewIn s (yes! k c xs rs) = length rs ≤ length (idents s)

abbrev pub FewOf : ℕ → Read → Type 0
FewOf n (bad r) = Unit {0}
FewOf n (script s) = FewIn s (pass_read n (script s))

-- of every file and run limit
abbrev pub RootsFew : Type 0
RootsFew = (n : ℕ) (bs : List ℕ) → FewOf n (read bs)

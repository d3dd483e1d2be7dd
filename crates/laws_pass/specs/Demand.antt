-- Paired scripts are treated alike, and no step looks at the origin of a literal or of an assignment. Assumes nothing: these are definitions.
use Rattle.std.specs.Prelude.{◌≡◌, List, ℕ}
use Rattle.def_file.specs.Script.{Script}
use Rattle.def_file.specs.Read.{script, read}
use Rattle.def_pass.specs.Tree.{Tree}
use Rattle.def_pass.specs.Script.{pass_file}
use Rattle.def_pass.specs.Entry.{entry}
use Rattle.def_pass.specs.Walk.{core_pass}
use Rattle.def_pass.specs.Paired.{Paired, Alike, Kept, AlikeEntry}
use Rattle.def_pass.specs.Relabel.{relabel, relabel_out}

-- demand 3, from the bytes of two files on: for every pair and run limit
abbrev pub Demand3 : Type 0
Demand3 = (as' bs : List ℕ) (a b : Script) → read as' ≡ script a → read bs ≡ script b → Paired a b → (n : ℕ)
    → Alike a b (pass_file n as') (pass_file n bs) × Kept a (pass_file n as') × Kept b (pass_file n bs)

-- demand 3 about the whole entry: for every pair, run limit, number of working words and room for each result
abbrev pub Demand3Entry : Type 0
Demand3Entry = (as' bs : List ℕ) (a b : Script) → read as' ≡ script a → read bs ≡ script b → Paired a b → (runs words room room' : ℕ)
    → AlikeEntry a b (entry runs words as' room) (entry runs words bs room')

-- relabelling the origins of a tree and then passing is passing and then relabelling. 0 stays 0: it is the origin of the zero that the pass writes
abbrev pub OriginBlind : Type 0
OriginBlind = (r : ℕ → ℕ) → r 0 ≡ 0 → (n : ℕ) (t : Tree) → core_pass n (relabel r t) ≡ relabel_out r (core_pass n t)

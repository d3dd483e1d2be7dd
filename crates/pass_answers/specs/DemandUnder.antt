-- Demand 3 of the C functions under a lent kind table: of two calls on paired scripts, both read under one table. Assumes nothing: these are definitions.
use Rattle.std.specs.Prelude.{◌≡◌, List, ℕ, leb, length}
use Rattle.def_file.specs.Script.{Script}
use Rattle.laws_under.specs.Paired.{PairedUnder}
use Rattle.pass_answers.specs.declared.Inlined.{Inlined}
use Rattle.pass_answers.specs.declared.Roots.{Roots}
use Rattle.pass_answers.specs.declared.RootBinding.{RootBinding}
use Rattle.pass_answers.specs.Under.{InlineUnderIs, RootsUnderIs, RootUnderIs}
use Rattle.pass_answers.specs.Demand.{AlikeEnds, AlikeLists, AlikeBindings}

-- as Demand3Inline, Demand3Roots and Demand3Root
abbrev pub Demand3InlineUnder : Type 0
Demand3InlineUnder = (T as' bs : List ℕ) (a b : Script) → PairedUnder T as' bs a b
    → (runs : ℕ) (r r' w w' : List ℕ) (x : Inlined) (s s' v v' : List ℕ) (y : Inlined) → leb 16384 (length w) ≡ leb 16384 (length v)
    → InlineUnderIs T as' r r' w w' runs x → InlineUnderIs T bs s s' v v' runs y → AlikeEnds as' bs runs a b x y r r' s s'

abbrev pub Demand3RootsUnder : Type 0
Demand3RootsUnder = (T as' bs : List ℕ) (a b : Script) → PairedUnder T as' bs a b
    → (runs : ℕ) (r r' w w' : List ℕ) (x : Roots) (s s' v v' : List ℕ) (y : Roots) → leb 16384 (length w) ≡ leb 16384 (length v)
    → RootsUnderIs T as' r r' w w' runs x → RootsUnderIs T bs s s' v v' runs y → AlikeLists a b x y r r' s s'

abbrev pub Demand3RootUnder : Type 0
Demand3RootUnder = (T as' bs : List ℕ) (a b : Script) → PairedUnder T as' bs a b
    → (runs n : ℕ) (w w' : List ℕ) (x : RootBinding) (v v' : List ℕ) (y : RootBinding) → leb 16384 (length w) ≡ leb 16384 (length v)
    → RootUnderIs T as' w w' runs n x → RootUnderIs T bs v v' runs n y → AlikeBindings a b x y

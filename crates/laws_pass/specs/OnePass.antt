-- prevent_inline makes one pass through each scope: by name and by value on the way. Assumes nothing: these are definitions.
use Rattle.std.specs.Prelude.{◌≡◌, false, List, [], ◌∷◌, map, ℕ, eqb}
use Rattle.def_tree.specs.Base.{change_if}
use Rattle.def_tree.specs.Combine.{Res, stop, done}
use Rattle.def_pass.specs.Tree.{Tree}
use Rattle.def_pass.specs.Scope.{VarInfo, Stack, prevent, prevent_one, value_is, change_in, has_in}
use Rattle.def_pass.specs.Walk.{St, walks, run}

-- every binding of an identifier is marked
abbrev pub by_name : ℕ → List VarInfo → List VarInfo
by_name i bs = map (change_if prevent (λ b. eqb b.id i)) bs

-- every binding whose value is that identifier is marked
abbrev pub by_value : ℕ → List VarInfo → List VarInfo
by_value i bs = map (change_if prevent (λ b. value_is i b.value)) bs

-- of any bindings, with equal identifiers or not: a pass by name and then one by value leave what one pass leaves
abbrev pub OnePass : Type 0
OnePass = (i : ℕ) (bs : List VarInfo) → by_value i (by_name i bs) ≡ map (prevent_one i) bs

-- no identifier has two bindings
abbrev pub Lone : List VarInfo → Type 0
Lone [] = Unit {0}
Lone (b ∷ bs) = (has_in b.id bs ≡ false) × Lone bs

abbrev pub LoneIn : Stack → Type 0
LoneIn [] = Unit {0}
LoneIn (s ∷ st) = Lone s.bindings × LoneIn st

-- the Rust marks the first binding of a name alone, which is the only one
abbrev pub FirstOfName : Type 0
FirstOfName = (i : ℕ) (bs : List VarInfo) → Lone bs → by_value i (change_in i prevent bs) ≡ map (prevent_one i) bs

abbrev pub LoneAfter : Res St Tree → Type 0
LoneAfter (stop n) = Unit {0}
LoneAfter (done s t) = LoneIn s.stack

-- and no scope gets a second binding of a name: of every walk of every depth, and of a run
pub record ScopesLone : Type 0 where
  pub full : (d p : ℕ) (t : Tree) (s : St) → LoneIn s.stack → LoneAfter ((walks d).full p t s)
  pub bare : (d p : ℕ) (t : Tree) (s : St) → LoneIn s.stack → LoneAfter ((walks d).bare p t s)
  pub inner : (d p : ℕ) (t : Tree) (s : St) → LoneIn s.stack → LoneAfter ((walks d).inner p t s)
  pub one : (t : Tree) (s : St) → LoneIn s.stack → LoneAfter (run t s)

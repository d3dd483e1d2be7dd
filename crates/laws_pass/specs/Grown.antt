-- The root's bindings stand in the order they were made: what a walk, a run or the runs add stands behind what was there. Assumes nothing: these are definitions.
use Rattle.std.specs.Prelude.{◌≡◌, List, ◌++◌, map, ℕ}
use Rattle.def_tree.specs.Combine.{Res, stop, done}
use Rattle.def_pass.specs.Tree.{Tree}
use Rattle.def_pass.specs.Scope.{Stack}
use Rattle.def_pass.specs.Walk.{St, walks, run, runs, Rooted, Outcome, refused, result, root_marks}

-- identifiers of root lines
abbrev pub ids_of : List Rooted → List ℕ
ids_of ms = map (λ (m : Rooted). m.0) ms

abbrev pub root_ids : Stack → List ℕ
root_ids st = ids_of (root_marks st)

pub record Longer (xs ys : List ℕ) : Type 0 where
  pub more : List ℕ
  pub is : ys ≡ xs ++ more

abbrev pub Grown : St → Res St Tree → Type 0
Grown s (stop n) = Unit {0}
Grown s (done s' t) = Longer (root_ids s.stack) (root_ids s'.stack)

abbrev pub GrownOut : St → Outcome → Type 0
GrownOut s (refused n) = Unit {0}
GrownOut s (result k c t ms) = Longer (root_ids s.stack) (ids_of ms)

-- of every walk of every depth, of a run, and of the runs, from any state on
pub record RootsGrow : Type 0 where
  pub full : (d p : ℕ) (t : Tree) (s : St) → Grown s ((walks d).full p t s)
  pub bare : (d p : ℕ) (t : Tree) (s : St) → Grown s ((walks d).bare p t s)
  pub inner : (d p : ℕ) (t : Tree) (s : St) → Grown s ((walks d).inner p t s)
  pub one : (t : Tree) (s : St) → Grown s (run t s)
  pub all : (n k : ℕ) (t : Tree) (s : St) → GrownOut s (runs n k t s)

-- Request 3: a flagged binding is marked prevented at every declare of it, and a flag goes with the function in which it stands. Assumes nothing: these are definitions.
use Rattle.std.specs.Prelude.{◌≡◌, ◌⊎◌, Bool, true, false, List, [], ◌∷◌, ◌++◌, map, ℕ, T}
use Rattle.def_tree.specs.Tree.{flat}
use Rattle.def_tree.specs.Combine.{done}
use Rattle.def_file.specs.declared.kind.Kind.TheVariants.{BindingIdent, FnDecl}
use Rattle.def_file.specs.Named.{is_kind}
use Rattle.def_file.specs.Kinds.{is_expr}
use Rattle.def_file.specs.Script.{Script}
use Rattle.def_file.specs.Core.{back}
use Rattle.def_pass.specs.Tree.{Tree, Forest, node, nil, cons, form, num, tail_f}
use Rattle.def_pass.specs.Twice.{is_twice, is_function, is_named, flagged}
use Rattle.def_pass.specs.Scope.{Scope, Stack, VarType, Init, mark_of, find_binding_from_current, declare}
use Rattle.def_pass.specs.Walk.{St, declare_m, core_pass, Outcome, refused, result}
use Rattle.laws_pass.specs.Readable.{Readable}

-- the current scope has a binding of i, and it is marked
abbrev pub Marked : ℕ → Stack → Type 0
Marked i st = mark_of (find_binding_from_current i st) ≡ true

abbrev pub DeclareMarks : Type 0
DeclareMarks = (i : ℕ) (v : Init) (u : Bool) (k : VarType) (s : Scope) (st : Stack) → Marked i (declare true i v u k (s ∷ st))

-- the step that the walks take for a declarator's name, a parameter, a catch binding and a function's name, in any open scope
abbrev pub FlaggedMarked : Type 0
FlaggedMarked = (name : Tree) → is_twice (form name) ≡ true → (v : Init) (c : Bool) (k : VarType) (s s' : St) (o : Scope) (os : Stack) → s.stack ≡ o ∷ os
    → declare_m name v c k s ≡ done s' tt → Marked (num name) s'.stack

-- no flag is seen in a file: a tree with its bindings flagged has the file nodes of the tree
abbrev pub FlagsUnseen : Type 0
FlagsUnseen = (s : Script) (t : Tree) → map (back s) (flat (flagged t) []) ≡ map (back s) (flat t [])

-- the bindings that a function or the script declares, nested functions' not, in order, each with its flag: of declarators, parameters, catches and heads of loops, and the
-- names of functions declared there. An expression has none: the name of a function expression is written, not declared, and so is the target of an assignment
abbrev pub Own : Type 0
Own = ℕ × Bool

abbrev mutual
  pub owns : Tree → List Own
  owns (node k f a ts) = elim (is_kind BindingIdent k) [
    | true ↦ (a, is_twice f) ∷ []
    | false ↦ elim (is_expr k) [ true ↦ [] | false ↦ elim (is_kind FnDecl k) [ true ↦ owns_first ts | false ↦ owns_f ts ] ]
  ]

  pub owns_f : Forest → List Own
  owns_f nil = []
  owns_f (cons t ts) = owns t ++ owns_f ts

  pub owns_first : Forest → List Own
  owns_first nil = []
  owns_first (cons t ts) = owns t

-- of a function: its parameters' and its body's
abbrev pub region : ℕ → ℕ → Forest → List Own
region k f ts = elim (is_named k f) [ true ↦ owns_f (tail_f ts) | false ↦ owns_f ts ]

-- of all functions of a tree
abbrev mutual
  pub regions : Tree → List (List Own)
  regions (node k f a ts) = elim (is_function k) [ true ↦ region k f ts ∷ regions_f ts | false ↦ regions_f ts ]

  pub regions_f : Forest → List (List Own)
  regions_f nil = []
  regions_f (cons t ts) = regions t ++ regions_f ts

-- what holds of every function of a tree
abbrev mutual
  pub Regions : (List Own → Type 0) → Tree → Type 0
  Regions R (node k f a ts) = (T (is_function k) → R (region k f ts)) × RegionsF R ts

  pub RegionsF : (List Own → Type 0) → Forest → Type 0
  RegionsF R nil = Unit {0}
  RegionsF R (cons t ts) = Regions R t × RegionsF R ts

abbrev pub Among : List (List Own) → List Own → Type 0
Among [] r = ⊥
Among (x ∷ xs) r = (r ≡ x) ⊎ Among xs r

-- of a result: the script declares what it declared as read, and every function what a function of the script as read did, binding for binding and flag for flag
abbrev pub FlagsIn : Tree → Outcome → Type 0
FlagsIn t (refused n) = Unit {0}
FlagsIn t (result k c u ms) = (owns u ≡ owns (flagged t)) × Regions (Among (regions (flagged t))) u

-- of every run limit, and so of the tree that each run begins with: a flag goes with the function in which it stands, wherever that is moved or copied
abbrev pub FlagsStay : Type 0
FlagsStay = (n : ℕ) (t : Tree) → Readable t → FlagsIn t (core_pass n t)

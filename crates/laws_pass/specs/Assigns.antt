-- Each `=` outside the initialisers is in the result exactly once, with its target as it was but for the defaults of a pattern (request 4). On
-- core trees, where the number of an assignment is its origin. Assumes nothing: these are definitions.
use Rattle.std.specs.Prelude.{◌≡◌, Bool, true, false, ◌&&◌, ◌||◌, List, [], ◌∷◌, ◌++◌, ℕ, ◌%◌, T, eqb}
use Rattle.std.proofs.Math.Option.{Option, none, some}
use Rattle.def_tree.specs.Base.{pick}
use Rattle.def_file.specs.Named.{is_kind}
use Rattle.def_file.specs.declared.kind.Kind.TheVariants as Kind
use Rattle.def_pass.specs.Tree.{Tree, Forest, node, nil, cons, kind, head_t, tail_f, is_pattern, in_pattern}
use Rattle.def_pass.specs.Walk.{core_pass, Outcome, refused, result}

-- a tree without the flags of its bindings (request 3): of a binding's form only whether its name is `arguments`
abbrev mutual
  pub plain : Tree → Tree
  plain (node k f a ts) = node k (pick (is_kind Kind.BindingIdent k) (f % 2) f) a (plains ts)

  pub plains : Forest → Forest
  plains nil = nil
  plains (cons t ts) = cons (plain t) (plains ts)

-- of a pattern the bindings, and what of patterns they stand in; in the place of an expression, which is a default, nothing
abbrev pub nothing : Tree
nothing = node 0 0 0 nil

abbrev mutual
  pub skeleton : Tree → Tree
  skeleton (node k f a ts) = elim (is_kind Kind.BindingIdent k || in_pattern k) [ true ↦ node k (pick (is_kind Kind.BindingIdent k) (f % 2) f) a (skeletons ts) | false ↦ nothing ]

  pub skeletons : Forest → Forest
  skeletons nil = nil
  skeletons (cons t ts) = cons (skeleton t) (skeletons ts)

-- a target: a pattern without its defaults, and anything else whole
abbrev pub target : Tree → Tree
target t = pick (is_pattern t) (skeleton t) (plain t)

abbrev pub target_o : Option Tree → Option Tree
target_o none = none
target_o (some t) = some (target t)

-- an `=`: its origin and its target
abbrev pub Assign : Type 0
Assign = ℕ × Option Tree

abbrev pub listed : Bool → Assign → List Assign
listed true x = x ∷ []
listed false x = []

-- of a node: is it an `=` whose origin is asked for
abbrev pub own_assign : (ℕ → Bool) → ℕ → ℕ → ℕ → Option Tree → List Assign
own_assign asked k f a l = listed (is_kind Kind.Assign k && eqb f 0 && asked a) (a, target_o l)

-- those of a tree, in order
abbrev mutual
  pub assigns : (ℕ → Bool) → Tree → List Assign
  assigns asked (node k f a ts) = own_assign asked k f a (head_t ts) ++ assigns_f asked ts

  pub assigns_f : (ℕ → Bool) → Forest → List Assign
  assigns_f asked nil = []
  assigns_f asked (cons t ts) = assigns asked t ++ assigns_f asked ts

-- the last tree is a block
abbrev pub LastBlock : Forest → Type 0
LastBlock nil = Unit {0}
LastBlock (cons t nil) = T (is_kind Kind.Block (kind t))
LastBlock (cons t (cons u us)) = LastBlock (cons u us)

-- none is a binding or of a pattern
abbrev pub Expressions : Forest → Type 0
Expressions nil = Unit {0}
Expressions (cons t ts) = (skeleton t ≡ nothing) × Expressions ts

-- no `=` that is asked for stands in an initialiser, which is an expression, or below a binding, an identifier or a literal; a function ends in a block
pub record Here (asked : ℕ → Bool) (k : ℕ) (ts : Forest) : Type 0 where
  pub inits : T (is_kind Kind.VarDeclarator k) → assigns_f asked (tail_f ts) ≡ []
  pub values : T (is_kind Kind.VarDeclarator k) → Expressions (tail_f ts)
  pub leaves : T (is_kind Kind.BindingIdent k || is_kind Kind.Ident k || is_kind Kind.Null k) → assigns_f asked ts ≡ []
  pub ends : T (is_kind Kind.FnDecl k || is_kind Kind.FnExpr k) → LastBlock ts

abbrev mutual
  pub Outside : (ℕ → Bool) → Tree → Type 0
  Outside asked (node k f a ts) = Here asked k ts × OutsideF asked ts

  pub OutsideF : (ℕ → Bool) → Forest → Type 0
  OutsideF asked nil = Unit {0}
  OutsideF asked (cons t ts) = Outside asked t × OutsideF asked ts

abbrev pub KeptOut : (ℕ → Bool) → Tree → Outcome → Type 0
KeptOut asked t (refused n) = Unit {0}
KeptOut asked t (result k c u ms) = assigns asked u ≡ assigns asked t

-- whatever is asked for, of every tree and run limit: the same list, in the same order
abbrev pub AssignsKept : Type 0
AssignsKept = (asked : ℕ → Bool) (n : ℕ) (t : Tree) → Outside asked t → KeptOut asked t (core_pass n t)

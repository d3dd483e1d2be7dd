-- What an identifier means, said without the resolver's walk: of the scopes around it, found from the node's number alone, the innermost that declares its
-- name. A scope is told by its place, which is the number of the node that opens it, and which of that node's scopes it is, and not by a number of its own.
-- Assumes nothing: these are definitions.
use Rattle.std.specs.Prelude.{Bool, true, false, ◌&&◌, List, [], ◌∷◌, ℕ, zero, suc, ◌+◌, ◌-◌, eqb, ltb, length}
use Rattle.std.proofs.Math.Option.{Option, none, some}
use Rattle.def_tree.specs.Base.{pick, member}
use Rattle.def_tree.specs.Tree.{Core, core, no_core, length_f}
use Rattle.def_pass.specs.Tree.{Tree, Forest, node, nil, cons, count}
use Rattle.def_resolve.specs.Scopes.{Scope, Role, apart, role, role_before, opened, first_outside}
use Rattle.def_resolve.specs.Resolve.{opens}

-- a scope that stands around: of a node's scopes the outer is 0
pub record Around : Type 0 where
  pub node : ℕ
  pub which : ℕ
  pub scope : Scope

abbrev pub placed : ℕ → ℕ → List Scope → List Around → List Around
placed b w [] gs = gs
placed b w (s ∷ ss) gs = placed b (suc w) ss (record { node = b; which = w; scope = s } ∷ gs)

abbrev pub beyond : List Around → List Around
beyond [] = []
beyond (a ∷ gs) = gs

-- the scopes around the node that is n nodes behind the first of a tree, the innermost first: of a tree whose first node has number b, with as around
-- it; of trees, of which the first has ds around it
abbrev mutual
  pub around : Role → Tree → ℕ → List Around → ℕ → List Around
  around r (node k f a ts) b gs zero = gs
  around r (node k f a ts) b gs (suc n) =
      let ds = placed b 0 (opened r (node k f a ts)) gs in
      around_f (role k f ts) ts (suc b) (pick (first_outside k f) (beyond ds) ds) ds n

  pub around_f : Role → Forest → ℕ → List Around → List Around → ℕ → List Around
  around_f r nil b ds gs n = gs
  around_f r (cons t ts) b ds gs n = elim (ltb n (count t)) [ true ↦ around (role_before r ts) t b ds n | false ↦ around_f r ts (b + count t) gs gs (n - count t) ]

-- the innermost that declares x; an `arguments` that its function does not declare is that function's own object, which no scope declares
abbrev pub innermost : Bool → ℕ → List Around → Option Around
innermost arguments x [] = none
innermost arguments x (a ∷ gs) = elim (member x a.scope.names) [ true ↦ some a | false ↦ elim (arguments && a.scope.function) [ true ↦ none | false ↦ innermost arguments x gs ] ]

-- how many scopes are opened by the nodes before the one that is n nodes behind the first
abbrev mutual
  pub before : Role → Tree → ℕ → ℕ
  before r (node k f a ts) zero = 0
  before r (node k f a ts) (suc n) = length (opened r (node k f a ts)) + before_f (role k f ts) ts n

  pub before_f : Role → Forest → ℕ → ℕ
  before_f r nil n = 0
  before_f r (cons t ts) n = elim (ltb n (count t)) [ true ↦ before (role_before r ts) t n | false ↦ opens (role_before r ts) t + before_f r ts (n - count t) ]

-- the node that is n nodes behind the first
abbrev mutual
  pub nth : Tree → ℕ → Core
  nth (node k f a ts) zero = core k f (length_f ts) a
  nth (node k f a ts) (suc n) = nth_f ts n

  pub nth_f : Forest → ℕ → Core
  nth_f nil n = no_core
  nth_f (cons t ts) n = elim (ltb n (count t)) [ true ↦ nth t n | false ↦ nth_f ts (n - count t) ]

-- a scope's place
abbrev pub place : Option Around → Option (ℕ × ℕ)
place none = none
place (some a) = some (a.node, a.which)

-- the scope that declares the name of the node that is n nodes behind the first of a script's tree; none where it is an undeclared name
abbrev pub declaring : Tree → ℕ → Option Around
declaring t n = let x = nth t n in innermost (eqb x.form 1) x.num (around apart t 1 [] n)

abbrev pub variable : Tree → ℕ → Option (ℕ × ℕ)
variable t n = place (declaring t n)

-- scopes are numbered from 1 in node order: the number of the scope at a place
abbrev pub number_of : Tree → Option (ℕ × ℕ) → ℕ
number_of t none = 0
number_of t (some p) = 1 + before apart t (p.0 - 1) + p.1

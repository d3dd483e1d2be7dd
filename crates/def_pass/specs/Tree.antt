-- The core tree: what the walks see. A node has its kind and form (document 01), one number, and its children.
-- The number is, of a binding or identifier: the number of the identifier, and its form is 1 where its name is `arguments`, and 2 more where it is a binding that request 3 flags;
-- of a literal (all are `Null`, form 0): its origin; of a property, a member or a pattern property: the number of the input node whose text
-- it has.
use Rattle.std.specs.Prelude.{Bool, true, false, ◌&&◌, ◌||◌, List, ◌∷◌, ℕ, ◌+◌, max, eqb}
use Rattle.std.proofs.Math.Option.{Option, none, some}
use Rattle.def_file.specs.declared.kind.Kind.TheVariants.{FnDecl, BindingIdent, Ident, Null, This, Unary, Member, Computed, FnExpr, ObjectPat, ArrayPat, AssignPat}
use Rattle.def_file.specs.Named.{number_of, is_kind, is_between}
pub use Rattle.def_tree.specs.Tree.{Tree, Forest, node, nil, cons, kind, form, num, kids, count, counts, tail_f}

-- a leaf's height is 1
abbrev mutual
  pub height : Tree → ℕ
  height (node k f a ts) = 1 + heights ts

  pub heights : Forest → ℕ
  heights nil = 0
  heights (cons t ts) = max (height t) (heights ts)

abbrev pub count_o : Option Tree → ℕ
count_o none = 0
count_o (some t) = count t

-- the same tree: a computed test
abbrev mutual
  pub same : Tree → Tree → Bool
  same (node k f a ts) (node l g b us) = eqb k l && eqb f g && eqb a b && sames ts us

  pub sames : Forest → Forest → Bool
  sames nil nil = true
  sames nil (cons u us) = false
  sames (cons t ts) nil = false
  sames (cons t ts) (cons u us) = same t u && sames ts us

-- kinds that the pass asks for
abbrev pub is_ident : Tree → Bool
is_ident t = is_kind Ident (kind t)

abbrev pub is_lit : Tree → Bool
is_lit t = is_kind Null (kind t)

abbrev pub is_member : Tree → Bool
is_member t = is_kind Member (kind t) || is_kind Computed (kind t)

-- a literal or an identifier
abbrev pub is_cheap : Tree → Bool
is_cheap t = is_lit t || is_ident t

abbrev pub head_t : Forest → Option Tree
head_t nil = none
head_t (cons t ts) = some t

-- Expr::undefined: `void 0`, whose zero has origin 0
abbrev pub void_zero : Tree
void_zero = node (number_of Unary) 0 0 (cons (node (number_of Null) 0 0 nil) nil)

-- contains_this_expr: looks into arrows and the defaults of their parameters, not into functions
abbrev mutual
  pub has_this : Tree → Bool
  has_this (node k f a ts) = elim (is_kind This k) [ true ↦ true | false ↦ elim (is_kind FnExpr k || is_kind FnDecl k) [ true ↦ false | false ↦ has_this_f ts ] ]

  pub has_this_f : Forest → Bool
  has_this_f nil = false
  has_this_f (cons t ts) = has_this t || has_this_f ts

abbrev pub is_pattern : Tree → Bool
is_pattern t = is_kind ObjectPat (kind t) || is_kind ArrayPat (kind t)

-- what patterns are made of: also properties and defaults
abbrev pub in_pattern : ℕ → Bool
in_pattern k = is_between ObjectPat AssignPat k

-- BoundNames (find_pat_ids): the bindings that patterns alone lead to, in order; a default's expression binds none
abbrev mutual
  pub bound_names : Tree → List ℕ → List ℕ
  bound_names (node k f a ts) rest = elim (is_kind BindingIdent k) [ true ↦ a ∷ rest | false ↦ elim (in_pattern k) [ true ↦ bound_names_f ts rest | false ↦ rest ] ]

  pub bound_names_f : Forest → List ℕ → List ℕ
  bound_names_f nil rest = rest
  bound_names_f (cons t ts) rest = bound_names t (bound_names_f ts rest)

-- the bindings and identifiers, in order
abbrev mutual
  pub ident_list : Tree → List Tree → List Tree
  ident_list (node k f a ts) rest = elim (is_kind BindingIdent k || is_kind Ident k) [ true ↦ node k f a nil ∷ rest | false ↦ ident_list_f ts rest ]

  pub ident_list_f : Forest → List Tree → List Tree
  ident_list_f nil rest = rest
  ident_list_f (cons t ts) rest = ident_list t (ident_list_f ts rest)

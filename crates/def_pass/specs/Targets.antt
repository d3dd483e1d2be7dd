-- Request 8: the identifiers that an assignment, an update or a head of for-in or for-of (declaring or not) targets,
-- anywhere in the script as read. What is targeted is the first child: itself if it is an identifier, what it binds if it is a binding or a
-- pattern (request 4), the name of its declarator if it is a declaration.
use Rattle.std.specs.Prelude.{Bool, true, false, ◌&&◌, ◌||◌, [], ℕ, eqb}
use Rattle.def_tree.specs.Base.{member}
use Rattle.def_file.specs.declared.kind.Kind.TheVariants.{VarDecl, VarDeclarator, ForIn, ForOf, Ident, Update, Assign}
use Rattle.def_file.specs.Named.{is_kind}
use Rattle.def_pass.specs.Tree.{Tree, Forest, node, nil, cons, bound_names}

abbrev pub aims : ℕ → Bool
aims k = is_kind Assign k || is_kind Update k || is_kind ForIn k || is_kind ForOf k

abbrev mutual
  pub aimed_at : ℕ → Tree → Bool
  aimed_at i (node k f a ts) = elim (is_kind VarDecl k || is_kind VarDeclarator k) [ true ↦ first_is i ts | false ↦ (is_kind Ident k && eqb a i) || member i (bound_names (node k f a ts) []) ]

  pub first_is : ℕ → Forest → Bool
  first_is i nil = false
  first_is i (cons t ts) = aimed_at i t

abbrev mutual
  pub targets : Tree → ℕ → Bool
  targets (node k f a ts) i = (aims k && first_is i ts) || targets_f ts i

  pub targets_f : Forest → ℕ → Bool
  targets_f nil i = false
  targets_f (cons t ts) i = targets t i || targets_f ts i

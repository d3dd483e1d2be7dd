-- Contexts worked out: each identifier has the number of the innermost scope around it that declares its name, and 0 where none does. Assumes nothing:
-- these are definitions.
use Rattle.std.specs.Prelude.{Bool, true, false, ◌&&◌, ◌||◌, List, [], ◌∷◌, map, ℕ, ◌+◌, suc, eqb, length}
use Rattle.std.proofs.Math.Option.{Option, none, some}
use Rattle.def_tree.specs.Base.{pick, member}
use Rattle.def_tree.specs.Tree.{Core, flat}
use Rattle.def_file.specs.declared.Raw.{Raw}
use Rattle.def_file.specs.declared.kind.Kind.TheVariants as Kind
use Rattle.def_file.specs.Named.{is_kind}
use Rattle.def_file.specs.Script.{Script, has_id}
use Rattle.def_file.specs.Core.{core_nodes}
use Rattle.def_pass.specs.Tree.{Tree, Forest, node, nil, cons}
use Rattle.def_pass.specs.Script.{core_tree}
use Rattle.def_resolve.specs.Scopes.{Scope, Role, apart, role, role_before, opened, first_outside, clashes}

pub record Numbered : Type 0 where
  pub number : ℕ
  pub scope : Scope

-- the number of the innermost scope that declares x, and 0 where none does (ResolveBinding); an `arguments` that its function does not declare is that
-- function's own object, which no scope declares: it is searched no further
abbrev pub means : Bool → ℕ → List Numbered → ℕ
means arguments x [] = 0
means arguments x (e ∷ es) = elim (member x e.scope.names) [ true ↦ e.number | false ↦ elim (arguments && e.scope.function) [ true ↦ 0 | false ↦ means arguments x es ] ]

-- scopes, the outer first, into those around, the innermost first
abbrev pub push : ℕ → List Scope → List Numbered → List Numbered
push c [] es = es
push c (s ∷ ss) es = push (suc c) ss (record { number = c; scope = s } ∷ es)

abbrev pub outer : List Numbered → List Numbered
outer [] = []
outer (e ∷ es) = es

-- how many scopes are opened
abbrev mutual
  pub opens : Role → Tree → ℕ
  opens r (node k f a ts) = length (opened r (node k f a ts)) + opens_f (role k f ts) ts

  pub opens_f : Role → Forest → ℕ
  opens_f r nil = 0
  opens_f r (cons t ts) = opens (role_before r ts) t + opens_f r ts

abbrev pub is_name : ℕ → Bool
is_name k = is_kind Kind.BindingIdent k || is_kind Kind.Ident k

-- the same tree with contexts for names: of a tree with the scopes es around it, the first of its own being number c; of trees, of which the first has
-- the scopes ds around it
abbrev mutual
  pub resolve : Role → Tree → List Numbered → ℕ → Tree
  resolve r (node k f a ts) es c =
      let ss = opened r (node k f a ts) in
      let ds = push c ss es in
      node k f (elim (is_name k) [ true ↦ means (eqb f 1) a es | false ↦ a ]) (resolve_f (role k f ts) ts (pick (first_outside k f) (outer ds) ds) ds (c + length ss))

  pub resolve_f : Role → Forest → List Numbered → List Numbered → ℕ → Forest
  resolve_f r nil ds es c = nil
  resolve_f r (cons t ts) ds es c = cons (resolve (role_before r ts) t ds c) (resolve_f r ts es es (c + opens (role_before r ts) t))

-- the contexts in the tree file are passed over
abbrev pub bare_node : Raw → Raw
bare_node x = record { kind = x.kind; form = x.form; arity = x.arity; text = x.text; bits = pick (has_id x) 0 x.bits }

abbrev pub bare : Script → Script
bare s = record { nodes = map bare_node s.nodes; texts = s.texts }

-- so that in its core a name's number is that of its text, in the order of first use
unfoldable pub names_tree : Script → Option Tree
unfolding core_nodes
names_tree s = core_tree (bare s)

abbrev pub clashing : Option Tree → Bool
clashing none = false
clashing (some t) = clashes apart t

-- do names clash: refusal 13
unfoldable pub clashes_in : Script → Bool
unfolding names_tree
clashes_in s = clashing (names_tree s)

abbrev pub contexts_of : Option Tree → List Core
contexts_of none = []
contexts_of (some t) = flat (resolve apart t [] 1) []

-- the contexts put into the nodes
abbrev pub put_context : Raw → Core → Raw
put_context x c = record { kind = x.kind; form = x.form; arity = x.arity; text = x.text; bits = pick (has_id x) c.num x.bits }

abbrev pub put_contexts : List Raw → List Core → List Raw
put_contexts [] cs = []
put_contexts (x ∷ xs) [] = x ∷ xs
put_contexts (x ∷ xs) (c ∷ cs) = put_context x c ∷ put_contexts xs cs

unfoldable pub resolved : Script → Script
unfolding names_tree
resolved s = record { nodes = put_contexts s.nodes (contexts_of (names_tree s)); texts = s.texts }

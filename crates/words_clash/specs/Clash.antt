-- The names that clash in a tree, node by node: in the scope of the node itself, and in the scopes of the blocks among its children. Assumes nothing:
-- these are definitions.
use Rattle.std.specs.Prelude.{Bool, true, false, ◌&&◌, ◌||◌, not, [], ℕ, ◌++◌}
use Rattle.def_tree.specs.Base.{pick}
use Rattle.def_file.specs.declared.kind.Kind.TheVariants as Kind
use Rattle.def_file.specs.Named.{is_kind, is_between}
use Rattle.def_pass.specs.Tree.{Tree, Forest, node, nil, cons}
use Rattle.def_pass.specs.Twice.{is_function}
use Rattle.def_resolve.specs.Names.{lexical_names_f, var_names_f, top_lexical, top_var}
use Rattle.def_resolve.specs.Scopes.{Counted, counted, bound_params, defaults, statements, init_f, clash}
use Rattle.words_clash.specs.declared.Counting.{Counting}
use Rattle.words_clash.specs.declared.Counting.TheVariants.{Function, Statements, Catch, Script, Nothing}

abbrev pub counting : ℕ → Counting
counting k =
    elim (is_function k) [
      | true ↦ Function
      | false ↦ elim (is_between Kind.For Kind.ForOf k || is_kind Kind.Switch k) [ true ↦ Statements | false ↦ elim (is_kind Kind.CatchClause k) [ true ↦ Catch | false ↦ elim (is_kind Kind.Script k) [ true ↦ Script | false ↦ Nothing ] ] ]
    ]

-- what is counted so
abbrev pub counts_as : Counting → ℕ → ℕ → Forest → Counted
counts_as Function k f ts = counted (top_lexical (statements ts)) (top_var (statements ts) ++ bound_params k f ts)
counts_as Statements k f ts = counted (lexical_names_f ts) (var_names_f ts)
counts_as Catch k f ts = counted (bound_params k f ts ++ lexical_names_f (statements ts)) (var_names_f (statements ts))
counts_as Script k f ts = counted (top_lexical ts) (top_var ts)
counts_as Nothing k f ts = counted [] []

-- in the scope of a node other than a block; a block is none of these kinds
abbrev pub own_clash : Tree → Bool
own_clash (node k f a ts) = clash (counts_as (counting k) k f ts)

-- in that of a block; and of one of some trees
abbrev pub block_clash : Tree → Bool
block_clash (node k f a ts) = is_kind Kind.Block k && clash (counted (lexical_names_f ts) (var_names_f ts))

abbrev pub blocks_clash : Forest → Bool
blocks_clash nil = false
blocks_clash (cons t ts) = block_clash t || blocks_clash ts

-- is the last child counted with the node
abbrev pub shares : ℕ → ℕ → Forest → Bool
shares k f ts = is_function k || (is_kind Kind.CatchClause k && not (defaults k f ts))

-- the other children
abbrev pub apart_f : ℕ → ℕ → Forest → Forest
apart_f k f ts = pick (shares k f ts) (init_f ts) ts

abbrev pub node_clash : Tree → Bool
node_clash (node k f a ts) = own_clash (node k f a ts) || blocks_clash (apart_f k f ts)

-- at some node
abbrev mutual
  pub all_clash : Tree → Bool
  all_clash (node k f a ts) = node_clash (node k f a ts) || nodes_clash ts

  pub nodes_clash : Forest → Bool
  nodes_clash nil = false
  nodes_clash (cons t ts) = all_clash t || nodes_clash ts

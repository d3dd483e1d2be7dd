-- The core of a script, which names everything by numbers, and the way back to file nodes. Assumes nothing: these are definitions.
-- A core has, of an identifier, its number in the order of first appearance; of a literal, its origin, which is its node's number; of a
-- property, member or pattern property, the number of the node whose text it has. Of a name it has only whether it is `arguments`.
use Rattle.std.specs.Prelude.{Bool, ◌||◌, List, [], ◌∷◌, ℕ, suc, get_or}
use Rattle.def_tree.specs.Base.{pick, to_nat}
use Rattle.def_tree.specs.Tree.{Core}
use Rattle.def_file.specs.declared.Raw.{Raw}
use Rattle.def_file.specs.declared.kind.Kind.TheVariants.{BindingIdent, Ident, Null, Str, Prop, Member, PatProp}
use Rattle.def_file.specs.Named.{number_of, is_kind, is_between}
use Rattle.def_file.specs.Script.{Script, is_lit, has_id, idents, place_of, zero_node, node_at, is_arguments}

-- the kinds with a text that no step looks at
abbrev pub has_text : ℕ → Bool
has_text k = is_kind Prop k || is_kind Member k || is_kind PatProp k

-- the core of node number n; every literal is a `Null` there
unfoldable pub core_node : Script → ℕ → Raw → Core
unfolding idents
core_node s n x =
    pick (is_lit x) (record { kind = number_of Null; form = 0; arity = 0; num = n })
    (pick (has_id x) (record { kind = x.kind; form = to_nat (is_arguments s x); arity = x.arity; num = place_of x (idents s) })
    (record { kind = x.kind; form = x.form; arity = x.arity; num = n }))

abbrev pub core_from : Script → ℕ → List Raw → List Core
core_from s n [] = []
core_from s n (x ∷ xs) = core_node s n x ∷ core_from s (suc n) xs

unfoldable pub core_nodes : Script → List Core
unfolding core_node
core_nodes s = core_from s 1 s.nodes

-- a node of a result: the file's node, and its origin
pub record Out : Type 0 where
  pub raw : Raw
  pub origin : ℕ

-- an identifier by its number
abbrev pub ident_at : Script → ℕ → Raw
ident_at s i = get_or (idents s) i zero_node

-- the file's node of a core node: a literal whole, an identifier's text and context, a property's text
abbrev pub lit_out : Script → Core → Out
lit_out s c = record { raw = node_at s c.num; origin = c.num }

abbrev pub id_out : Script → Core → Out
id_out s c = record { raw = record { kind = c.kind; form = 0; arity = c.arity; text = (ident_at s c.num).text; bits = (ident_at s c.num).bits }; origin = c.num }

abbrev pub plain_out : Script → Core → Out
plain_out s c = record { raw = record { kind = c.kind; form = c.form; arity = c.arity; text = pick (has_text c.kind) (node_at s c.num).text 0; bits = 0 }; origin = c.num }

unfoldable pub back : Script → Core → Out
unfolding idents
back s c =
    pick (is_between Null Str c.kind) (lit_out s c)
    (pick (is_kind BindingIdent c.kind || is_kind Ident c.kind) (id_out s c) (plain_out s c))

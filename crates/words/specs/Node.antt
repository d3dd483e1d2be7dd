-- Nodes stored in the words. Assumes nothing: these are definitions.
use Rattle.std.specs.Prelude.{◌≡◌, List, ℕ, ◌≤◌, ◌<◌, length, get_or}
use Rattle.def_tree.specs.Tree.{Core, core}
use Rattle.def_file.specs.Named.{IsKindOf, number_of}
use Rattle.words.specs.Layout.{Agree, node_of, nodes_base, values_base, node_count}
use Rattle.words.specs.declared.Node.{Node}

-- what a node is in the list
abbrev pub core_of : Node → Core
core_of x = core (number_of x.kind) x.form x.arity x.num

-- what a node of the list is here
abbrev pub IsNode : Core → Node → Type 0
IsNode c x = IsKindOf c.kind x.kind × (x.form ≡ c.form) × (x.arity ≡ c.arity) × (x.num ≡ c.num)

-- its parts fit into the words that it takes
abbrev pub Packed : Node → Type 0
Packed x = (number_of x.kind < 64) × (x.form < 32) × (x.arity < 65536)

-- no word but those of the tree has changed
pub record Apart (w w' : List ℕ) : Type 0 where
  pub size : length w' ≡ length w
  pub low : Agree 1 nodes_base w w'
  pub high : (j : ℕ) → values_base ≤ j → get_or w' j 0 ≡ get_or w j 0

-- node k was stored as c
pub record NodePut (w w' : List ℕ) (k : ℕ) (c : Core) : Type 0 where
  pub apart : Apart w w'
  pub count : node_count w' ≡ node_count w
  pub here : node_of w' k ≡ c
  pub other : (j : ℕ) → (j ≡ k → ⊥) → node_of w' j ≡ node_of w j

-- What a caller of scope.rs gives: an init, a value. Assumes nothing: these are definitions.
use Rattle.std.specs.Prelude.{◌≡◌, Option as Maybe, Some, None, List, ℕ, ◌+◌, ◌≤◌}
use Rattle.std.proofs.Math.Option.{Option, none, some}
use Rattle.def_tree.specs.Tree.{Tree, Core}
use Rattle.def_pass.specs.Scope as def
use Rattle.words.specs.Layout.{run, nodes_base, node_count}
use Rattle.words_scopes.specs.State.{value_of, run_of}
use Rattle.scope_declare.specs.declared.define.Init.{Init}
use Rattle.scope_declare.specs.declared.define.Init.TheVariants.{NoInit, Recorded, Seen}
use Rattle.scope.specs.Handles.{tree_o}

-- a value that is given: none, or the tree at a node
abbrev pub value_at : List Core → Maybe ℕ → Option Tree
value_at xs None = none
value_at xs (Some i) = tree_o xs i

-- an init that is given, which is none without a tree
abbrev pub init_by : (Tree → def.Init) → Option Tree → def.Init
init_by v none = def.no_init
init_by v (some t) = v t

abbrev pub init_o : List Core → Init → def.Init
init_o xs NoInit = def.no_init
init_o xs (Recorded i) = init_by def.recorded (tree_o xs i)
init_o xs (Seen i) = init_by def.seen (tree_o xs i)

-- the nodes of a value that is given
pub record Runs (w : List ℕ) (v : Option Tree) (at m : ℕ) : Type 0 where
  pub inside : at + m ≤ node_count w
  pub one : run_of (value_of (run w nodes_base at m)) ≡ run w nodes_base at m
  pub is : value_of (run w nodes_base at m) ≡ v

-- The port's own enums, and what of the definition each case is. Assumes nothing: these are definitions.
use Rattle.std.specs.Prelude.{Bool, true, false, List, ℕ, ◌<◌, Option, Some, None}
use Rattle.std.proofs.Math.Option as math
use Rattle.def_tree.specs.Tree.{first_t, plant}
use Rattle.def_pass.specs.Scope as def
use Rattle.words.specs.Layout.{run, nodes_base}
use Rattle.words.specs.declared.Run.{Run}
use Rattle.scope_declare.specs.declared.define.Init.{Init}
use Rattle.scope_declare.specs.declared.define.Init.TheVariants.{NoInit, Recorded, Seen}
pub use Rattle.words_scopes.specs.Kinds.{decl_kind_of, type_of, alias_of}

-- an init whose tree is m of the nodes in the words
abbrev pub init_at : List ℕ → Init → ℕ → def.Init
init_at w NoInit m = def.no_init
init_at w (Recorded i) m = def.recorded (first_t (plant (run w nodes_base i m)))
init_at w (Seen i) m = def.seen (first_t (plant (run w nodes_base i m)))

-- where it begins; none without an init
abbrev pub start_of : Init → Option ℕ
start_of NoInit = None
start_of (Recorded i) = Some i
start_of (Seen i) = Some i

-- its nodes
abbrev pub nodes_of : Init → ℕ → Run
nodes_of NoInit m = record { at = 0; len = 0 }
nodes_of (Recorded i) m = record { at = i; len = m }
nodes_of (Seen i) m = record { at = i; len = m }

-- is the old value kept
abbrev pub is_seen : Init → Bool
is_seen NoInit = false
is_seen (Recorded i) = false
is_seen (Seen i) = true

-- a tree has nodes
abbrev pub Sized : Init → ℕ → Type 0
Sized NoInit m = Unit {0}
Sized (Recorded i) m = 0 < m
Sized (Seen i) m = 0 < m

-- the binding that both marks are put on, beside the one declared
abbrev pub bar_of : Option ℕ → math.Option ℕ
bar_of None = math.none
bar_of (Some y) = math.some y

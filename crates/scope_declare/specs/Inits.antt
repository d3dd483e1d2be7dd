-- What a declaration looks up of its init, and of the current scope. Assumes nothing: these are definitions.
use Rattle.std.specs.Prelude.{None, Bool, true, false, ◌&&◌, not, List, ℕ, ◌<◌}
use Rattle.std.proofs.Math.Option.{Option}
use Rattle.def_tree.specs.Tree.{Core}
use Rattle.def_pass.specs.Scope as def
use Rattle.def_pass.specs.Scope.{Stack, place_or, is_param, param_o, barred}
use Rattle.scope_find.specs.Look.{idx_here, bars_here, bound_here}
use Rattle.words_nodes.specs.Nodes.{tree_from}
use Rattle.words_scopes.specs.declared.kinds.VarType.{VarType}
use Rattle.scope_declare.specs.declared.define.Declaration.{Declaration}
use Rattle.scope_declare.specs.declared.define.Init.{Init}
use Rattle.scope_declare.specs.declared.define.Init.TheVariants.{NoInit, Recorded, Seen}

-- an init whose tree is among some nodes, and that it begins at one of the n
abbrev pub init_from : List Core → Init → def.Init
init_from xs NoInit = def.no_init
init_from xs (Recorded i) = def.recorded (tree_from xs i)
init_from xs (Seen i) = def.seen (tree_from xs i)

abbrev pub Sited : Init → ℕ → Type 0
Sited NoInit n = Unit {0}
Sited (Recorded i) n = i < n
Sited (Seen i) n = i < n

-- it has no value
abbrev pub has_none : Init → Bool
has_none NoInit = true
has_none (Recorded i) = false
has_none (Seen i) = false

-- a declaration that names no binding
abbrev pub plain : VarType → Bool → Bool → Bool → Declaration
plain k p u l = record { kind = k; alias = None; prevented = p; undefined = u; looped = l; barred = None }

-- where x is among the bindings of the current scope, or would be
abbrev pub place_here : ℕ → Stack → ℕ
place_here x st = place_or (bound_here st) (idx_here x st)

-- is there a barrier between x and the binding of y
abbrev pub barred_here : ℕ → ℕ → Stack → Bool
barred_here x y st = barred (idx_here y st) (place_here x st) (bars_here st)

abbrev pub works_with : def.VarType → Option def.VarType → Bool
works_with k al = not (is_param k) && not (param_o al)

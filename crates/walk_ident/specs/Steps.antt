-- The steps of an identifier and of a scope on the list of nodes, as the functions here make them. Assumes nothing: these are definitions.
use Rattle.std.specs.Prelude.{◌≡◌, ℕ, suc, Bool, true, false, not, ◌&&◌, List, ◌==◌}
use Rattle.std.proofs.Math.Option.{Option, none, some}
use Rattle.def_tree.specs.Base.{pick}
use Rattle.def_tree.specs.Tree.{Tree, form, num}
use Rattle.def_tree.specs.Combine.{M as MS, Nothing, ◌>>◌, Flat, node_at, act, on_rest, put, Walk as One}
use Rattle.def_pass.specs.Scope.{VarInfo, Stack, var_inline_prevented, find_binding, find_constant, value_o, prevent_inline, add_read, change, defined, with_value}
use Rattle.def_pass.specs.Walk.{St, when, modify, mark, grow, replace, restore, set_changed, tally, same_ident, cheap_o}
use Rattle.laws_flat.specs.WalkF.{test_read}
use Rattle.words_scopes.specs.State.{stack}
use Rattle.words_state.specs.declared.SavedFields.{SavedFields}
use Rattle.words_state.specs.State.{abs, Fielded, Ok}
use Rattle.scope.specs.Handles.{numbered, value_tree}
use Rattle.walk_ident.specs.declared.Found.{Found}
use Rattle.walk_ident.specs.declared.Found.TheVariants as found

-- ident_analysis_f without its last skip
abbrev pub analysis_f : ℕ → MS (Flat St) Nothing
analysis_f i = act test_read i >> act (λ t. mark (add_read (num t) (form t == 1))) i

-- does a read of x in a test prevent: it has a binding whose value is no literal and no identifier
abbrev pub costly : Option VarInfo → Bool
costly none = false
costly (some b) = not (cheap_o b.value)

abbrev pub test_stack : Bool → ℕ → Stack → Stack
test_stack test x st = pick (test && costly (find_binding x st)) (prevent_inline x st) st

-- what becomes of an identifier in Inlining, by its binding
pub data Fate : Type 0 where
  stays : Fate
  undefined : Fate
  inlined : Tree → Fate

abbrev pub fate_by : Bool → Option Tree → Fate
fate_by u none = pick u undefined stays
fate_by u (some e) = inlined e

abbrev pub fate_of : Option VarInfo → Fate
fate_of none = stays
fate_of (some b) = pick (var_inline_prevented b) stays (fate_by b.is_undefined b.value)

abbrev pub fate_at : Flat St → ℕ → Fate
fate_at st i = fate_of (find_binding (node_at st i).num st.rest.stack)

-- the constant that an identifier names, in the first run
abbrev pub constant_at : Flat St → ℕ → Option Tree
constant_at st i = pick st.rest.is_first_run (find_constant (node_at st i).num st.rest.stack) none

-- the value of a binding, by its number, which has one
abbrev pub value_by : List ℕ → ℕ → Tree
value_by w b = value_tree (value_o (numbered (stack w) (suc b)))

abbrev pub Has : List ℕ → ℕ → Type 0
Has w b = value_o (numbered (stack w) (suc b)) ≡ some (value_by w b)

abbrev pub Fated : List ℕ → ℕ → Found → Type 0
Fated w i found.Nothing = fate_at (abs w) i ≡ stays
Fated w i found.Void = fate_at (abs w) i ≡ undefined
Fated w i (found.Value b) = (fate_at (abs w) i ≡ inlined (value_by w b)) × Has w b

-- e, with rows 8 and 9, in the place of the tree at i; by a value with the mark of a change, counted; by a constant
abbrev pub swap_f : ℕ → Tree → One St
swap_f p e i = act (λ t. replace p t e) i >> put e i

abbrev pub value_f : ℕ → Tree → One St
value_f p e i = act (λ t. when (not (same_ident t e)) (modify (λ s. tally (num t) (set_changed true s)))) i >> swap_f p e i

abbrev pub const_f : ℕ → Tree → One St
const_f p e i = on_rest (modify (set_changed true)) >> swap_f p e i

-- `=` in Inlining: is it the first value of the binding found, and what is done then
abbrev pub first_test : Option VarInfo → Bool → Bool
first_test none q = false
first_test (some b) q = b.is_undefined && not (var_inline_prevented b) && not q

abbrev pub first_f : ℕ → ℕ → Tree → One St
first_f p x r i = on_rest (grow (change x (λ c. defined (with_value (some r) c)))) >> swap_f p r i

-- what the end of a replacement notes: nothing, a change, or a change that is counted at the binding of an identifier
pub data Note : Type 0 where
  quiet : Note
  changes : Note
  counts : ℕ → Note

abbrev pub noted : Note → St → St
noted quiet s = s
noted changes s = set_changed true s
noted (counts x) s = tally x (set_changed true s)

abbrev pub counts_if : Bool → ℕ → Note
counts_if true x = counts x
counts_if false x = quiet

-- with_child's end: the fields are those that the visitor had before
pub record Restored (w u : List ℕ) (f : SavedFields) : Type 0 where
  pub ok : Ok w u
  pub is : (old : St) → Fielded f old → abs u ≡ record { nodes = (abs w).nodes; rest = restore old (abs w).rest }

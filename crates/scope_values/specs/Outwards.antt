-- The check on recorded nodes, added from the current scope outwards. Assumes nothing: these are definitions.
use Rattle.std.specs.Prelude.{◌≡◌, [], ◌∷◌, true, false, ℕ, suc, ◌+◌, ◌≤◌, ◌<◌, take, ltb, Option, Some, None, is_some}
use Rattle.def_pass.specs.Scope.{Scope, Stack, values_in, values_of, recorded_nodes}

-- the nodes that a scope records: of its bindings and of its constants
abbrev pub nodes_here : Scope → ℕ
nodes_here s = values_in s.bindings + values_of s.constants

abbrev pub one_more : Option ℕ → Option ℕ
one_more None = None
one_more (Some k) = Some (suc k)

-- n nodes are counted already: after how many scopes, from the current one outwards, they are over 512, `None` if never. No scope is looked at behind that
abbrev pub stops_at : ℕ → Stack → Option ℕ
stops_at n [] = elim (ltb 512 n) [ true ↦ Some 0 | false ↦ None ]
stops_at n (s ∷ st) = elim (ltb 512 n) [ true ↦ Some 0 | false ↦ one_more (stops_at (n + nodes_here s) st) ]

-- the sum from the root inwards
abbrev pub inwards : Stack → ℕ
inwards [] = 0
inwards (s ∷ st) = inwards st + nodes_here s

-- it stops exactly where the sum from the root inwards, which is the definition's, is over 512: for any stack, and whatever is counted before
abbrev pub StopsExactly : Type 0
StopsExactly = (n : ℕ) (st : Stack) → (is_some (stops_at n st) ≡ ltb 512 (n + inwards st)) × (inwards st ≡ recorded_nodes st)

-- and after the first scope with which the sum is over 512
abbrev pub StopsFirst : Type 0
StopsFirst = (n k : ℕ) (st : Stack) → stops_at n st ≡ Some k → (512 < n + inwards (take k st)) × ((j : ℕ) → j < k → n + inwards (take j st) ≤ 512)

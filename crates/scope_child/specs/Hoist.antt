-- Hoisting, binding by binding, and what of the counts ends then (request 9). Assumes nothing: these are definitions.
use Rattle.std.specs.Prelude.{ℕ, zero, suc, ◌+◌, List, [], ◌∷◌}
use Rattle.def_tree.specs.Base.{pick}
use Rattle.def_pass.specs.Scope.{VarInfo, Stack, is_var, on_bindings, put, hoist, count_in}
use Rattle.words_scopes.specs.State.{bare_of}
use Rattle.words.specs.Layout.{id_word, kind_word, alias_of_word, read_cnt_word, inline_prevented_word, is_undefined_word, this_sensitive_word, hoisted_word, count_word}

-- record j, whether it is a binding's or past the last, without its value
abbrev pub record_at : List ℕ → ℕ → VarInfo
record_at w j = bare_of (id_word w j) (kind_word w j) (alias_of_word w j) (read_cnt_word w j) (inline_prevented_word w j) (is_undefined_word w j) (this_sensitive_word w j) (hoisted_word w j) (count_word w j)

-- a binding of a closed scope goes up, if it is a `var`
abbrev pub hoist_one : VarInfo → Stack → Stack
hoist_one c [] = []
hoist_one c (s ∷ st) = on_bindings (λ bs. pick (is_var c.kind) (put (hoist s.unresolved_usages c) bs) bs) s ∷ st

-- n of them, from a on
abbrev pub hoist_up : (ℕ → VarInfo) → ℕ → ℕ → Stack → Stack
hoist_up f a zero st = st
hoist_up f a (suc n) st = hoist_one (f (a + n)) (hoist_up f a n st)

-- the count that ends with it: of the binding in whose place it comes, or its own if it does not go up
abbrev pub end_one : VarInfo → Stack → ℕ
end_one c [] = pick (is_var c.kind) 0 c.count
end_one c (s ∷ st) = pick (is_var c.kind) (count_in c.id s.bindings) c.count

abbrev pub end_up : (ℕ → VarInfo) → ℕ → ℕ → Stack → ℕ
end_up f a zero st = 0
end_up f a (suc n) st = end_up f a n st + end_one (f (a + n)) (hoist_up f a n st)

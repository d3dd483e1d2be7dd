-- What the contracts of marks cite. Assumes nothing: these are definitions.
use Rattle.std.specs.Prelude.{◌≡◌, ◌||◌, Bool, true, false, List, map, ℕ, eqb, Option, Some, None}
use Rattle.def_tree.specs.Base.{change_if}
use Rattle.words_scopes.specs.declared.binding.Binding.{Binding}

-- the binding with its prevented mark set; every other field is as it was
abbrev pub prevent : Binding → Binding
prevent b = record { id = b.id; value = b.value; prevented = true }

-- a value is the identifier x
abbrev pub is_ident_of : Option ℕ → ℕ → Bool
is_ident_of None x = false
is_ident_of (Some y) x = eqb y x

-- the binding with its prevented mark set if x is its identifier or its value; every other field is as it was
abbrev pub marked : ℕ → Binding → Binding
marked x b = record { id = b.id; value = b.value; prevented = (b.prevented || eqb b.id x) || is_ident_of b.value x }

-- a pass by name, and one by value
abbrev pub by_name : ℕ → List Binding → List Binding
by_name x bs = map (change_if prevent (λ b. eqb b.id x)) bs

abbrev pub by_value : ℕ → List Binding → List Binding
by_value x bs = map (change_if prevent (λ b. is_ident_of b.value x)) bs

-- of any list of records, with equal identifiers or not: one after the other they leave what one pass leaves
abbrev pub OnePass : Type 0
OnePass = (x : ℕ) (bs : List Binding) → by_value x (by_name x bs) ≡ map (marked x) bs

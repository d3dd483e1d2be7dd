-- What holds of the constant table: over the whole of it each entry is what the kind list says, by the nodes that the list allows no entry is
-- missing and none is idle, and reading with it is reading without it. Assumes nothing: these are definitions.
use Rattle.std.specs.Prelude.{◌≡◌, true, List, [], ◌∷◌, ℕ, ◌+◌, ◌/◌, ◌%◌, ◌<◌, get_or, None}
use Rattle.def_tree.specs.Base.{to_nat}
use Rattle.def_file.specs.declared.Raw.{Raw}
use Rattle.def_file.specs.declared.kinds.Class.TheVariants.{Root}
use Rattle.def_file.specs.Kinds.{allows, row_of, form_ok, count_ok, child_of}
use Rattle.def_file.specs.Read.{fills}
use Rattle.def_kinds.specs.Stands.{stands}
use Rattle.def_kinds.specs.Pairs.{allowed, pairs}

-- entry n is that of parent n / 48 + 1 and child n % 48 + 1
abbrev pub Agrees : List ℕ → Type 0
Agrees T = (n : ℕ) → n < 2304 → get_or T n 0 ≡ to_nat (stands (n / 48 + 1) (n % 48 + 1))

-- the list allows a node of kind p, of form f and with n children, and that child i of it is of kind c and has m children
pub record Takes (p f n i c m : ℕ) : Type 0 where
  pub form : form_ok (row_of p f) f ≡ true
  pub count : count_ok (row_of p f) n ≡ true
  pub place : i < n
  pub child : allows (child_of (row_of p f) n i) c m ≡ true

-- whatever child the list allows anywhere, the table allows
abbrev pub NoneMissing : List ℕ → Type 0
NoneMissing T = (p f n i c m : ℕ) → Takes p f n i c m → allowed T p c ≡ true

-- a place for a node of kind c somewhere under one of kind p, and the list allows that node, of a form of its own and with that many children
pub record Somewhere (p c : ℕ) : Type 0 where
  pub form : ℕ
  pub arity : ℕ
  pub index : ℕ
  pub own_form : ℕ
  pub own_arity : ℕ
  pub takes : Takes p form arity index c own_arity
  pub formed : form_ok (row_of c own_form) own_form ≡ true
  pub counted : count_ok (row_of c own_form) own_arity ≡ true

-- whatever the table allows has a place
abbrev pub NoneIdle : List ℕ → Type 0
NoneIdle T = (p c : ℕ) → allowed T p c ≡ true → Somewhere p c

-- of nodes that fill their places, one script, the table allows each under its parent
abbrev pub Unmoved : List ℕ → Type 0
Unmoved T = (t : ℕ) (xs : List Raw) → fills t (record { class = Root; left = 200 } ∷ []) xs ≡ true → pairs T (None ∷ []) xs ≡ true

-- Tables of what names mean. Assumes nothing: these are definitions.
use Rattle.std.specs.Prelude.{◌≡◌, Bool, true, false, ◌&&◌, List, ◌∷◌, ℕ, ◌<◌, eqb, length, get_or}
use Rattle.def_tree.specs.Base.{pick}
use Rattle.def_tree.specs.Tree.{Core, no_core}
use Rattle.def_resolve.specs.Scopes.{Scope}
use Rattle.def_resolve.specs.Resolve.{Numbered, means, is_name}
use Rattle.words_resolve.specs.declared.names.Seen.{Seen}
use Rattle.words_resolve.specs.declared.names.Seen.TheVariants.{Never, Once, Again}

-- of all names just those of number a are `arguments`; a is 256 or above where none is
pub record OneArguments (xs : List Core) (a : ℕ) : Type 0 where
  pub is : (j : ℕ) → j < length xs → is_name (get_or xs j no_core).kind ≡ true → eqb (get_or xs j no_core).form 1 ≡ eqb (get_or xs j no_core).num a

-- a table of what the names mean with these scopes around, name a being `arguments`
pub record View (a : ℕ) (table : List ℕ) (es : List Numbered) : Type 0 where
  pub is : (x : ℕ) → x < 256 → get_or table x 0 ≡ means (eqb x a) x es

abbrev pub declared : Seen → Bool
declared Never = false
declared Once = true
declared Again = true

-- a table with a scope more
abbrev pub inner_at : List ℕ → List Seen → ℕ → Bool → ℕ → ℕ → ℕ
inner_at around seen number cut a x = pick (declared (get_or seen x Never)) number (pick (cut && eqb x a) 0 (get_or around x 0))

pub record Nested (around : List ℕ) (seen : List Seen) (number : ℕ) (cut : Bool) (a : ℕ) (table : List ℕ) : Type 0 where
  pub long : length table ≡ 256
  pub is : (x : ℕ) → x < 256 → get_or table x 0 ≡ inner_at around seen number cut a x

-- in a scope more, whatever the scopes around it
pub record Inside (a : ℕ) (around : List ℕ) (c : ℕ) (s : Scope) (table : List ℕ) : Type 0 where
  pub long : length table ≡ 256
  pub is : (es : List Numbered) → View a around es → View a table (record { number = c; scope = s } ∷ es)

-- the context of a name, the number of another node
abbrev pub context : Core → List Numbered → ℕ
context x es = elim (is_name x.kind) [ true ↦ means (eqb x.form 1) x.num es | false ↦ x.num ]

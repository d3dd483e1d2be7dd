-- The rows looked up: which is the one for a node at a place. Assumes nothing: these are definitions.
use Rattle.std.specs.Prelude.{◌≡◌, Bool, true, false, ◌&&◌, ◌||◌, not, [], ℕ, ◌<◌, ◌≤◌, eqb, leb, Option, Some, None, get_or, T}
use Rattle.def_text.specs.Grammar.{is_for}
use Rattle.text_table.specs.declared.Row.{Row as Entry}
use Rattle.text_table.specs.declared.Mode.{Mode}
use Rattle.text_table.specs.declared.Mode.TheVariants as Modes
use Rattle.text_table.specs.declared.Guard.{Guard}
use Rattle.text_table.specs.declared.Guard.TheVariants as Guards
use Rattle.text_table.specs.Rows.{rows, no_row}
use Rattle.text_table.specs.Put.{Spot, stand}
use Rattle.text_rows.specs.declared.Place.{Place}

abbrev pub below : Mode → Bool → Bool
below Modes.Plus b = true
below Modes.Minus b = false
below Modes.Same b = b

abbrev pub guard_ok : Guard → Bool → Bool → Bool → Bool
guard_ok Guards.Always i r e = true
guard_ok Guards.Return i r e = r
guard_ok Guards.In i r e = i
guard_ok Guards.NotElse i r e = not e

-- a production for nodes of that kind and form with n children
abbrev pub counts : Entry → ℕ → ℕ → ℕ → Bool
counts x k f n = eqb x.kind k && eqb x.form f && (eqb x.singles n || (x.has_list && leb x.singles n))

-- the rows for a kind and form are among those from a up to b
pub record RangeIs (k f a b : ℕ) : Type 0 where
  pub few : b ≤ 136
  pub all : (i : ℕ) → i < 136 → (get_or rows i no_row).rule.kind ≡ k → (get_or rows i no_row).rule.form ≡ f → (a ≤ i) × (i < b)

-- where nothing is barred
abbrev pub spot_of : Place → Spot
spot_of p = record { place = p.place; has_in = p.has_in; has_return = p.has_return; has_else = p.has_else; bars = []; next = [] }

abbrev pub StandIs : ℕ → ℕ → ℕ → Place → Option ℕ → Type 0
StandIs k f n p (Some i) = (i < 136) × (stand k f n (spot_of p) ≡ Some (get_or rows i no_row))
StandIs k f n p None = stand k f n (spot_of p) ≡ None

abbrev pub AnyIs : ℕ → ℕ → ℕ → Option ℕ → Type 0
AnyIs k f n (Some i) = (i < 136) × T (is_for k f n (get_or rows i no_row).rule)
AnyIs k f n None = (i : ℕ) → i < 136 → is_for k f n (get_or rows i no_row).rule ≡ false

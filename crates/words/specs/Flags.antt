-- A set of numbers below 256 in eight words: number x is bit x % 32 of word x / 32. Assumes nothing: these are definitions.
use Rattle.std.specs.Prelude.{◌≡◌, List, ◌||◌, ℕ, ◌+◌, ◌/◌, ◌%◌, ◌^◌, ◌≤◌, ◌<◌, length, get_or, drop, eqb}
use Rattle.words.specs.Layout.{yes}

-- 1 if x is in the set from word p on, else 0
unfoldable pub flag_at : List ℕ → ℕ → ℕ → ℕ
flag_at w p x = get_or w (p + x / 32) 0 / 2 ^ (x % 32) % 2

-- x is put into the set from word p on, and all else is kept
pub record Flagged (w w' : List ℕ) (p x : ℕ) : Type 0 where
  pub size : length w' ≡ length w
  pub here : (j : ℕ) → j < 256 → yes (flag_at w' p j) ≡ (eqb x j || yes (flag_at w p j))
  pub other : (j : ℕ) → (j ≡ p + x / 32 → ⊥) → get_or w' j 0 ≡ get_or w j 0
  pub rest : (n : ℕ) → p + 8 ≤ n → drop n w' ≡ drop n w

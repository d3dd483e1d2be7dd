-- What the functions that move words do, word by word. Assumes nothing: these are definitions.
use Rattle.std.specs.Prelude.{◌≡◌, List, ℕ, ◌+◌, ◌≤◌, ◌<◌, length, get_or}
use Rattle.std.specs.Int.Bits.{bit_or}
use Rattle.words.specs.Layout.{beyond}

-- n words from a on have been copied to b, and all else is kept
pub record Moved (w w' : List ℕ) (a b n : ℕ) : Type 0 where
  pub size : length w' ≡ length w
  pub here : (j : ℕ) → j < n → get_or w' (b + j) 0 ≡ get_or w (a + j) 0
  pub low : (j : ℕ) → j < b → get_or w' j 0 ≡ get_or w j 0
  pub high : (j : ℕ) → b + n ≤ j → get_or w' j 0 ≡ get_or w j 0

-- the words xs are stored from p on, and all else is kept
pub record Put (w w' : List ℕ) (p : ℕ) (xs : List ℕ) : Type 0 where
  pub size : length w' ≡ length w
  pub here : (j : ℕ) → j < length xs → get_or w' (p + j) 0 ≡ get_or xs j 0
  pub low : (j : ℕ) → j < p → get_or w' j 0 ≡ get_or w j 0
  pub high : (j : ℕ) → p + length xs ≤ j → get_or w' j 0 ≡ get_or w j 0

-- n words from p on are 0, and all else is kept
pub record Zeroed (w w' : List ℕ) (p n : ℕ) : Type 0 where
  pub size : length w' ≡ length w
  pub here : (j : ℕ) → j < n → get_or w' (p + j) 0 ≡ 0
  pub low : (j : ℕ) → j < p → get_or w' j 0 ≡ get_or w j 0
  pub high : (j : ℕ) → p + n ≤ j → get_or w' j 0 ≡ get_or w j 0

-- the bits of the n words from a on are set in those from b on, and all else is kept
pub record Merged (w w' : List ℕ) (a b n : ℕ) : Type 0 where
  pub size : length w' ≡ length w
  pub here : (j : ℕ) → j < n → get_or w' (b + j) 0 ≡ bit_or (get_or w (a + j) 0) (get_or w (b + j) 0)
  pub low : (j : ℕ) → j < b → get_or w' j 0 ≡ get_or w j 0
  pub high : (j : ℕ) → b + n ≤ j → get_or w' j 0 ≡ get_or w j 0

-- the first 16,384 words are 0, and all else is kept
pub record Cleared (w w' : List ℕ) : Type 0 where
  pub size : length w' ≡ length w
  pub here : (j : ℕ) → j < 16384 → get_or w' j 0 ≡ 0
  pub rest : beyond w' ≡ beyond w

-- A list of tokens in the words: how many in word 0, and from word 1 on each by its number. Assumes nothing: these are definitions.
use Rattle.std.specs.Prelude.{◌≡◌, List, [], ◌∷◌, ◌++◌, ℕ, ◌+◌, map, length, get_or}
use Rattle.file_read.specs.declared.header.Header.{Header}
use Rattle.file_read.specs.Load.{Kept}
use Rattle.def_text.specs.Words.{Word}
use Rattle.text_tokens.specs.Tokens.{token}
use Rattle.text_tokens.specs.Bytes.{Token, codes_of}

abbrev pub used : List ℕ → ℕ
used w = get_or w 0 0

abbrev pub listed : List ℕ → List ℕ
listed w = codes_of w (used w)

-- one number more
pub record Appended (w w' : List ℕ) (c : ℕ) : Type 0 where
  pub count : used w' ≡ used w + 1
  pub list : listed w' ≡ listed w ++ (c ∷ [])
  pub kept : Kept w w'

abbrev pub AllTokens : List ℕ → Header → List ℕ → Type 0
AllTokens bs h [] = Unit {0}
AllTokens bs h (c ∷ cs) = Token bs h c × AllTokens bs h cs

-- the numbers of some tokens more
pub record Pushed (bs : List ℕ) (h : Header) (w w' : List ℕ) (ws : List Word) : Type 0 where
  pub numbers : List ℕ
  pub are : map (token bs h) numbers ≡ ws
  pub each : AllTokens bs h numbers
  pub count : used w' ≡ used w + length numbers
  pub list : listed w' ≡ listed w ++ numbers
  pub kept : Kept w w'

-- A list of tokens, and its bytes. Assumes nothing: these are definitions.
use Rattle.std.specs.Prelude.{◌≡◌, Bool, true, ◌⊎◌, List, [], ◌∷◌, ◌++◌, ℕ, ◌+◌, ◌-◌, ◌<◌, ◌≤◌, eqb, length, get_or, take, drop}
use Rattle.def_tree.specs.Base.{pick}
use Rattle.file_read.specs.declared.header.Header.{Header}
use Rattle.text_tokens.specs.Tokens.{HasOwn, token}

-- a word's number, or the number of a node that has its own text, string or number
abbrev pub Token : List ℕ → Header → ℕ → Type 0
Token bs h c = (c < 85) ⊎ ((128 ≤ c) × (c - 128 < h.nodes) × HasOwn bs h (c - 128))

-- the first n of a list that begins at word 1
abbrev pub codes_of : List ℕ → ℕ → List ℕ
codes_of w n = take n (drop 1 w)

-- a token or the end of a line
abbrev pub Listed : List ℕ → Header → ℕ → Type 0
Listed bs h c = (c ≡ 127) ⊎ Token bs h c

pub record Tokens (bs : List ℕ) (h : Header) (w : List ℕ) (n : ℕ) : Type 0 where
  pub long : n + 1 ≤ length w
  pub few : n ≤ 65536
  pub each : (i : ℕ) → i < n → Listed bs h (get_or w (1 + i) 0)

-- is a line's first token next
abbrev pub fresh_after : Bool → List ℕ → Bool
fresh_after f [] = f
fresh_after f (c ∷ cs) = fresh_after (eqb c 127) cs

module _ (bs : List ℕ) (h : Header) where
  -- one of the list, at the beginning of a line or not
  abbrev pub piece : Bool → ℕ → List ℕ
  piece f c = pick (eqb c 127) (10 ∷ []) (pick f [] (32 ∷ []) ++ token bs h c)

  abbrev pub render : Bool → List ℕ → List ℕ
  render f [] = []
  render f (c ∷ cs) = piece f c ++ render (eqb c 127) cs

  abbrev pub rendered : List ℕ → List ℕ
  rendered cs = render true cs

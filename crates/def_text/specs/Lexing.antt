-- Which tokens a text has, by ECMA-262, 12: the longest one first, then what is behind it, white space and line ends passed over. Left out is what cannot
-- begin at a byte of a printed text outside strings: comments (no `//`, no `/*`), templates, `#`, and regular expressions, since each `/` there stands behind
-- an operand; other numerals and names would be no longer, since a blank or a line end stands behind each token.
-- Assumes nothing: these are definitions.
use Rattle.std.specs.Prelude.{Bool, ◌||◌, List, [], ◌∷◌, ◌++◌, ◌≡◌, T, ℕ, ◌≤◌, length, eqb, codes}
use Rattle.def_text.specs.Words.{Word, among, is_name, is_number, is_string}

-- 12.8 Punctuator, DivPunctuator and RightBracePunctuator
abbrev pub punctuators : List Word
punctuators =
    codes "{" ∷ codes "(" ∷ codes ")" ∷ codes "[" ∷ codes "]" ∷ codes "." ∷ codes "..." ∷ codes ";" ∷ codes "," ∷ codes "<" ∷ codes ">" ∷ codes "<=" ∷ codes ">=" ∷ codes "=="
    ∷ codes "!=" ∷ codes "===" ∷ codes "!==" ∷ codes "+" ∷ codes "-" ∷ codes "*" ∷ codes "%" ∷ codes "**" ∷ codes "++" ∷ codes "--" ∷ codes "<<" ∷ codes ">>" ∷ codes ">>>"
    ∷ codes "&" ∷ codes "|" ∷ codes "^" ∷ codes "!" ∷ codes "~" ∷ codes "&&" ∷ codes "||" ∷ codes "??" ∷ codes "?" ∷ codes "?." ∷ codes ":" ∷ codes "=" ∷ codes "+=" ∷ codes "-="
    ∷ codes "*=" ∷ codes "%=" ∷ codes "**=" ∷ codes "<<=" ∷ codes ">>=" ∷ codes ">>>=" ∷ codes "&=" ∷ codes "|=" ∷ codes "^=" ∷ codes "&&=" ∷ codes "||=" ∷ codes "??=" ∷ codes "=>"
    ∷ codes "/" ∷ codes "/=" ∷ codes "}" ∷ []

-- a name or keyword, a number, a string, a punctuator
abbrev pub is_token : Word → Bool
is_token w = is_name w || is_number w || is_string w || among w punctuators

-- white space and line ends that a text here has
abbrev pub is_gap : ℕ → Bool
is_gap c = eqb c 32 || eqb c 10

-- of the tokens that the bytes begin with, w is the longest
abbrev pub Longest : Word → List ℕ → Type 0
Longest w bs = (v : Word) (r : List ℕ) → T (is_token v) → v ++ r ≡ bs → length v ≤ length w

-- the bytes have these tokens
pub data Lexes : List ℕ → List Word → Type 0 where
  end : Lexes [] []
  gap : (c : ℕ) (bs : List ℕ) (ws : List Word) → T (is_gap c) → Lexes bs ws → Lexes (c ∷ bs) ws
  token : (w : Word) (bs : List ℕ) (ws : List Word) → T (is_token w) → Longest w (w ++ bs) → Lexes bs ws → Lexes (w ++ bs) (w ∷ ws)

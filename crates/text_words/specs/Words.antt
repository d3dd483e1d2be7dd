-- Texts as tokens. Assumes nothing: these are definitions.
use Rattle.std.specs.Prelude.{Bool, ◌||◌, List, [], ℕ, take, get_or}
use Rattle.def_text.specs.Words.{every, between, is_digit, starts_name}
use Rattle.text_table.specs.Rows.{words}
use Rattle.text_words.specs.declared.word.Word.{Word as Entry}

abbrev pub continues_name : ℕ → Bool
continues_name c = starts_name c || is_digit c

abbrev pub all_continue : List ℕ → Bool
all_continue w = every (λ d. starts_name d || is_digit d) w

-- only bytes 32 to 126
abbrev pub plain : List ℕ → Bool
plain w = every (λ c. between 32 126 c) w

-- the bytes of a word of the tables
abbrev pub bytes_of : Entry → List ℕ
bytes_of x = take x.len x.bytes

-- word i of the productions
unfoldable pub word : ℕ → List ℕ
word i = get_or words i []

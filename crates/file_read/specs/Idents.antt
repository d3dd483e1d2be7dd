-- The identifiers of a script in the working words: how many, and of each the number of the first node that has it; for each text number, where
-- among them the search for an identifier of this text begins.
-- Assumes nothing: these are definitions.
use Rattle.std.specs.Prelude.{◌≡◌, false, List, ℕ, ◌+◌, ◌-◌, ◌*◌, ◌≤◌, ◌<◌, Option, Some, None, get_or, length, drop}
use Rattle.words.specs.Tab.{tab}
use Rattle.def_file.specs.declared.Raw.{Raw}
use Rattle.def_file.specs.Script.{known, place_of, enter}
use Rattle.def_file.specs.Read.{raw_of}
use Rattle.words.specs.Layout.{Agree, visitor_base, idents_base, first_of_text_base, targeted_base, ident_count_place, ident_count, ident_word, first_of_text_word}

-- the node number m of a file
abbrev pub numbered : List ℕ → ℕ → Raw
numbered bs m = raw_of (drop (32 + 16 * (m - 1)) bs)

-- the identifiers, each by that node
unfoldable pub ids_of : List ℕ → List ℕ → List Raw
ids_of bs w = tab (ident_count w) (λ i. numbered bs (ident_word w i))

-- at most 256, each the number of one of n nodes
pub record Listed (w : List ℕ) (n : ℕ) : Type 0 where
  pub long : 16384 ≤ length w
  pub few : ident_count w ≤ 256
  pub low : (i : ℕ) → i < ident_count w → 0 < ident_word w i
  pub high : (i : ℕ) → i < ident_count w → ident_word w i ≤ n

-- the word of a listed identifier's text is the number, from 1, of this identifier or of one before it; no word is above their count
pub record Texted (bs w : List ℕ) : Type 0 where
  pub some : (i : ℕ) → i < ident_count w → 0 < first_of_text_word w (numbered bs (ident_word w i)).text
  pub first : (i : ℕ) → i < ident_count w → first_of_text_word w (numbered bs (ident_word w i)).text ≤ i + 1
  pub high : (t : ℕ) → t < 256 → first_of_text_word w t ≤ ident_count w

-- the place of the identifier of x among those listed, or that it is none of them
abbrev pub Found : Raw → List Raw → Option ℕ → Type 0
Found x ids (Some j) = (j < length ids) × (j ≡ place_of x ids)
Found x ids None = known x ids ≡ false

-- the word of text t is v where it was 0, and all else is kept
pub record FirstSet (w w' : List ℕ) (t v : ℕ) : Type 0 where
  pub size : length w' ≡ length w
  pub other : (j : ℕ) → (j ≡ first_of_text_base + t → ⊥) → get_or w' j 0 ≡ get_or w j 0
  pub new : first_of_text_word w t ≡ 0 → first_of_text_word w' t ≡ v
  pub old : 0 < first_of_text_word w t → first_of_text_word w' t ≡ first_of_text_word w t

-- what entering the identifier of the node x gives: its number and the longer list, or that this would have over 256
abbrev pub Case : List ℕ → List ℕ → List ℕ → ℕ → Raw → Option ℕ → Type 0
Case bs w w' n x (Some j) = (ids_of bs w' ≡ enter (ids_of bs w) x) × (j ≡ place_of x (enter (ids_of bs w) x)) × Listed w' n × Texted bs w'
Case bs w w' n x None = 256 < length (enter (ids_of bs w) x)

-- all other words are as they were
pub record Enters (bs w w' : List ℕ) (n : ℕ) (x : Raw) (r : Option ℕ) : Type 0 where
  pub size : length w' ≡ length w
  pub first : Agree 0 ident_count_place w w'
  pub mid : Agree visitor_base idents_base w w'
  pub last : (j : ℕ) → targeted_base ≤ j → get_or w' j 0 ≡ get_or w j 0
  pub case : Case bs w w' n x r

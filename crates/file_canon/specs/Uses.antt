-- Numbers in the order of their first use, in the words: how many in word p, and from word p + 1 on two words for each, the low half first; the texts'
-- and the contexts' each in a stretch of their own. Assumes nothing: these are definitions.
use Rattle.std.specs.Prelude.{◌≡◌, Bool, ◌&&◌, not, List, [], ◌∷◌, ◌++◌, ℕ, ◌+◌, ◌*◌, ◌≤◌, ◌<◌, length, get_or, drop}
use Rattle.def_tree.specs.Base.{pick, member}
use Rattle.def_file.specs.declared.Raw.{Raw}
use Rattle.def_file.specs.Script.{has_id}
use Rattle.def_file.specs.Read.{nodes_from}
use Rattle.def_canon.specs.Canon.{first_uses, has_text_number, text_number, context}
use Rattle.words.specs.Layout.{used_texts_base, used_contexts_base, idents_base}
use Rattle.words.specs.Tab.{tab}
use Rattle.file_read.specs.Load.{Kept}

abbrev pub used_at : List ℕ → ℕ → ℕ → ℕ
used_at w p i = get_or w (p + 1 + 2 * i) 0 + 4294967296 * get_or w (p + 1 + 2 * i + 1) 0

unfoldable pub uses_of : List ℕ → ℕ → List ℕ
uses_of w p = tab (get_or w p 0) (λ i. used_at w p i)

-- at most 1,024, in words that are free after reading
pub record Holds (w : List ℕ) (p : ℕ) : Type 0 where
  pub long : 16384 ≤ length w
  pub low : used_texts_base ≤ p
  pub high : p + 2049 ≤ idents_base
  pub few : length (uses_of w p) ≤ 1024

-- a number behind them, if it is used and none of them
abbrev pub noted : Bool → ℕ → List ℕ → List ℕ
noted used x ns = pick (used && not (member x ns)) (ns ++ (x ∷ [])) ns

-- and all other words are as they were
pub record Noted (w w' : List ℕ) (p : ℕ) (used : Bool) (x : ℕ) : Type 0 where
  pub size : length w' ≡ length w
  pub uses : uses_of w' p ≡ noted used x (uses_of w p)
  pub before : (j : ℕ) → j < p → get_or w' j 0 ≡ get_or w j 0
  pub behind : (j : ℕ) → p + 2049 ≤ j → get_or w' j 0 ≡ get_or w j 0

-- the words have the numbers of texts and contexts that some nodes use
pub record Used (w : List ℕ) (xs : List Raw) : Type 0 where
  pub long : 16384 ≤ length w
  pub texts : uses_of w used_texts_base ≡ first_uses has_text_number text_number [] xs
  pub contexts : uses_of w used_contexts_base ≡ first_uses has_id context [] xs

-- those of the n nodes of a file
pub record Numbered (bs w w' : List ℕ) (n : ℕ) : Type 0 where
  pub used : Used w' (nodes_from n (drop 32 bs))
  pub kept : Kept w w'

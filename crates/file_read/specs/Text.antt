-- The texts of a file by their number. Assumes nothing: these are definitions.
use Rattle.std.specs.Prelude.{◌≡◌, Bool, ◌&&◌, List, [], ℕ, zero, suc, ◌+◌, ◌-◌, ◌*◌, ◌%◌, ◌^◌, ◌<◌, ◌≤◌, leb, length, take, drop, get_or}
use Rattle.std.specs.List.{fold}
use Rattle.def_tree.specs.Base.{pick}
use Rattle.file_read.specs.declared.texts.Texts.{Texts}
use Rattle.def_file.specs.Read.{u32, ends_from, texts_from, rising}

-- the bytes from a up to b, none if these are no stretch of the list
abbrev pub part : List ℕ → ℕ → ℕ → List ℕ
part bs a b = pick (leb a b && leb b (length bs)) (take (b - a) (drop a bs)) []

-- where text k begins, counted from the first text byte
abbrev pub start_of : List ℕ → ℕ → ℕ → ℕ
start_of bs ends zero = 0
start_of bs ends (suc k) = u32 bs (ends + 4 * k)

-- text k of a file whose ends stand from byte `ends` on and whose texts from byte `from` on
unfoldable pub text_in : List ℕ → ℕ → ℕ → ℕ → List ℕ
text_in bs ends from k = part bs (from + start_of bs ends k) (from + u32 bs (ends + 4 * k))

-- all texts, as reading has them
abbrev pub texts_of : List ℕ → Texts → List (List ℕ)
texts_of bs x = texts_from 0 (ends_from x.count (drop x.ends bs)) (drop x.bytes bs)

-- the hash of a text
abbrev pub hashed : ℕ → ℕ → ℕ
hashed n b = (n * 31 % 2 ^ 32 + b) % 2 ^ 32

unfoldable pub hash_of : List ℕ → ℕ
hash_of text = fold hashed 0 text

-- the numbers are the hashes of the texts
abbrev pub Hashed : List ℕ → Texts → List ℕ → Type 0
Hashed bs x hs = (k : ℕ) → k < x.count → get_or hs k 0 ≡ hash_of (text_in bs x.ends x.bytes k)

-- the ends stand in the file
pub record Stored (bs : List ℕ) (x : Texts) : Type 0 where
  pub low : x.ends ≤ 100000
  pub high : x.bytes ≤ 100000
  pub few : x.count ≤ 256
  pub room : x.ends + 4 * x.count ≤ length bs

-- and never fall, and the texts go up to the last byte
pub record Placed (bs : List ℕ) (x : Texts) : Type 0 where
  pub stored : Stored bs x
  pub size : x.bytes ≤ length bs
  pub rises : rising 0 (ends_from x.count (drop x.ends bs)) (length bs - x.bytes) ≡ Bool.true

-- A file that is longer than any readable one, 32 + 16 * 1,024 + 4 * 256 + 4,096 bytes, is answered as its first bytes are. Assumes nothing: these are definitions.
use Rattle.std.specs.Prelude.{◌≡◌, List, ℕ, ◌≤◌, length, take}
use Rattle.def_pass.specs.Entry.{entry}
use Rattle.def_under.specs.Entry.{entry_under}
use Rattle.pass_answers.specs.Roots.{listing, nth_root}
use Rattle.pass_answers.specs.Under.{listing_under, nth_under}

-- one byte more than the longest readable file has
abbrev pub cut_at : ℕ
cut_at = 21537

-- of the three C functions, for all arguments
abbrev pub CutAlike : Type 0
CutAlike = (runs words : ℕ) (bs : List ℕ) (room n : ℕ) → 21537 ≤ length bs
    → (entry runs words (take cut_at bs) room ≡ entry runs words bs room) × (listing runs words (take cut_at bs) room ≡ listing runs words bs room) × (nth_root runs words (take cut_at bs) n ≡ nth_root runs words bs n)

-- and of those under a lent table
abbrev pub CutAlikeUnder : Type 0
CutAlikeUnder = (runs words : ℕ) (T bs : List ℕ) (room n : ℕ) → 21537 ≤ length bs
    → (entry_under runs words T (take cut_at bs) room ≡ entry_under runs words T bs room) × (listing_under runs words T (take cut_at bs) room ≡ listing_under runs words T bs room)
    × (nth_under runs words T (take cut_at bs) n ≡ nth_under runs words T bs n)

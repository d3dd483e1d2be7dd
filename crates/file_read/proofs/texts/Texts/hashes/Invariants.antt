-- `file_read::texts::Texts::hashes` meets its contract. The invariant: the hashes of the texts passed. Assumes nothing.
use Rattle.std.proofs.Common.{◌≡◌, ℕ, ◌<◌, length, get_or}
use Rattle.file_read.specs.Text.{hash_of, text_in}
use Rattle.file_read.proofs.texts.Texts.hashes.Given as goal

abbrev pub invariant-loop-i : goal.invariant-loop-i
invariant-loop-i l = (length l.hashes ≡ 256) × ((j : ℕ) → j < l.i → get_or l.hashes j 0 ≡ hash_of (text_in l.file l.self.ends l.self.bytes j))

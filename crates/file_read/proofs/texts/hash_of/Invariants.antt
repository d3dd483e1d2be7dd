-- `file_read::texts::hash_of` meets its contract. The invariant: the hash of the bytes passed. Assumes nothing.
use Rattle.std.proofs.Common.{◌≡◌, take}
use Rattle.std.specs.List.{fold}
use Rattle.file_read.specs.Text.{hashed}
use Rattle.file_read.proofs.texts.hash_of.Given as goal

abbrev pub invariant-loop-byte : goal.invariant-loop-byte
invariant-loop-byte l = l.hash ≡ fold hashed 0 (take l.byte-index l.text)

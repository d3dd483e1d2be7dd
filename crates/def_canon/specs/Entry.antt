-- The writer itself, over working words, file and result buffer, with its refusals: those of checks 1 to 7 that concern what it is lent, and
-- "16 when the result buffer is too short, last". Assumes nothing: these are definitions.
use Rattle.std.specs.Prelude.{true, false, List, ℕ, leb, length}
use Rattle.def_file.specs.Read.{Read, bad, script, read}
use Rattle.def_file.specs.Write.{file}
use Rattle.def_canon.specs.Canon.{canon}

-- a refusal's number, or the file that was written
pub data Writing : Type 0 where
  refused : ℕ → Writing
  wrote : List ℕ → Writing

-- a file, if there is room for it
abbrev pub in_room : ℕ → List ℕ → Writing
in_room room out = elim (leb (length out) room) [ true ↦ wrote out | false ↦ refused 16 ]

abbrev pub canon_read : ℕ → Read → Writing
canon_read room (bad r) = refused r
canon_read room (script s) = in_room room (file (canon s))

unfoldable pub canon_entry : ℕ → List ℕ → ℕ → Writing
unfolding read canon file
canon_entry words bytes room = elim (leb 16384 words) [ false ↦ refused 1 | true ↦ canon_read room (read bytes) ]

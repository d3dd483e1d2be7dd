-- The resolver itself, over working words, file and result buffer, with its refusals. Assumes nothing: these are definitions.
use Rattle.std.specs.Prelude.{true, false, ◌&&◌, List, ℕ, ◌+◌, ◌*◌, leb, length, drop}
use Rattle.def_file.specs.Script.{Script, idents}
use Rattle.def_file.specs.Read.{Read, bad, script, u32, nodes_from, ends_from, texts_from, rising, distinct, nodes_ok, header}
use Rattle.def_file.specs.Write.{file}
use Rattle.def_resolve.specs.Resolve.{clashes_in, resolved}

-- refusals 2 to 6: `parts` and `read` of def_file without 7
abbrev pub shaped : Script → Read
shaped s = elim (nodes_ok s) [ false ↦ bad 6 | true ↦ script s ]

abbrev pub parts_shaped : ℕ → ℕ → ℕ → List ℕ → Read
parts_shaped n t b bs =
    let ends = ends_from t (drop (32 + 16 * n) bs) in
    let texts = texts_from 0 ends (drop (32 + 16 * n + 4 * t) bs) in
    elim (rising 0 ends b && distinct texts) [ false ↦ bad 5 | true ↦ shaped (record { nodes = nodes_from n (drop 32 bs); texts = texts }) ]

unfoldable pub read_shaped : List ℕ → Read
unfolding nodes_from ends_from texts_from rising distinct nodes_ok
read_shaped bs = header bs (parts_shaped (u32 bs 8) (u32 bs 16) (u32 bs 28) bs)

-- a refusal's number, or the resolved file
pub data Resolving : Type 0 where
  refused : ℕ → Resolving
  wrote : List ℕ → Resolving

-- 10, as for the pass: the result buffer is too short
abbrev pub in_room : ℕ → List ℕ → Resolving
in_room room out = elim (leb (length out) room) [ true ↦ wrote out | false ↦ refused 10 ]

-- 13 behind 6 and before 7, which counts the identifiers as numbered here, and not as given
abbrev pub resolve_script : ℕ → Script → Resolving
resolve_script room s =
    elim (clashes_in s) [
      | true ↦ refused 13
      | false ↦ elim (leb (length (idents (resolved s))) 256) [ false ↦ refused 7 | true ↦ in_room room (file (resolved s)) ]
    ]

abbrev pub resolve_read : ℕ → Read → Resolving
resolve_read room (bad n) = refused n
resolve_read room (script s) = resolve_script room s

-- 1: too few working words; there are no runs
unfoldable pub resolve_entry : ℕ → List ℕ → ℕ → Resolving
unfolding read_shaped clashes_in resolved idents file
resolve_entry words bytes room = elim (leb 16384 words) [ false ↦ refused 1 | true ↦ resolve_read room (read_shaped bytes) ]

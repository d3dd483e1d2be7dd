-- The whole entry: runs, working words, file and result buffer, with all ten refusals.
use Rattle.std.specs.Prelude.{Bool, true, false, ◌&&◌, List, map, ℕ, leb, length}
use Rattle.def_file.specs.Script.{Script}
use Rattle.def_file.specs.Read.{Read, bad, script, read}
use Rattle.def_file.specs.Write.{file}
use Rattle.def_pass.specs.Script.{Out, Root, Answer, no!, yes!, pass}

-- a refusal's number; or length, runs done, the last run's mark, the result file and the root bindings
pub data Entry : Type 0 where
  refused : ℕ → Entry
  passed : ℕ → ℕ → Bool → List ℕ → List Root → Entry

abbrev pub written : ℕ → Script → Answer → Entry
written room s (no! r) = refused r
written room s (yes! k c xs rs) =
    let out = file (record { nodes = map (λ (x : Out). x.raw) xs; texts = s.texts }) in
    elim (leb (length out) room) [ true ↦ passed (length out) k c out rs | false ↦ refused 10 ]

abbrev pub entry_read : ℕ → ℕ → Read → Entry
entry_read runs room (bad r) = refused r
entry_read runs room (script s) = written room s (pass runs s)

-- row 1
abbrev pub enough : ℕ → ℕ → Bool
enough runs words = leb 1 runs && leb runs 16 && leb 16384 words

unfoldable pub entry : ℕ → ℕ → List ℕ → ℕ → Entry
unfolding read pass file
entry runs words bytes room = elim (enough runs words) [ false ↦ refused 1 | true ↦ entry_read runs room (read bytes) ]

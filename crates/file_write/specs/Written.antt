-- What writing a result answers, and what it leaves in the result buffer. Assumes nothing: these are definitions.
use Rattle.std.specs.Prelude.{◌≡◌, true, false, ◌&&◌, List, [], ◌++◌, map, ℕ, ◌+◌, ◌*◌, ◌≤◌, leb, length, drop, Result, Ok, Err}
use Rattle.def_file.specs.Read.{Read, bad, script, u32, header}
use Rattle.def_file.specs.Write.{head_bytes, node_bytes}
use Rattle.words.specs.Layout.{tree, node_count}
use Rattle.refusal.specs.declared.Refusal.{Refusal}
use Rattle.refusal.specs.Number.{number}
use Rattle.file_read.specs.declared.header.Header.{Header}
use Rattle.file_write.specs.Back.{back_in, Source}

-- document 01's number of a refusal, or the result's length
pub data Answer : Type 0 where
  refused : ℕ → Answer
  wrote : ℕ → Answer

abbrev pub says : Result ℕ Refusal → Answer
says (Ok n) = wrote n
says (Err r) = refused (number r)

-- the length of the result: its nodes, and the file's texts
abbrev pub total : List ℕ → List ℕ → ℕ
total bs w = 32 + 16 * node_count w + 4 * u32 bs 16 + u32 bs 28

-- a result of n bytes
abbrev pub in_room : ℕ → ℕ → Answer
in_room n room = elim (leb n room) [ false ↦ refused 10 | true ↦ wrote n ]

-- behind the header: 9 where the count of nodes is none from 1 to 1,024, which it always is after reading; then 10
unfoldable pub fitted : List ℕ → List ℕ → ℕ → Answer
fitted bs w room = elim (leb 1 (node_count w) && leb (node_count w) 1024) [ false ↦ refused 9 | true ↦ in_room (total bs w) room ]

-- rows 2 to 4 alone: a refusal, or what stands behind them
abbrev pub none : Read
none = script (record { nodes = []; texts = [] })

abbrev pub behind : Read → Answer → Answer
behind (bad k) x = refused k
behind (script s) x = x

-- what writing answers, by file, words and room
unfoldable pub written : List ℕ → List ℕ → ℕ → Answer
unfolding fitted
written bs w room =
    elim (leb 16384 (length w)) [
      | false ↦ refused 1
      | true ↦ behind (header bs none) (fitted bs w room)
    ]

-- the result: header, nodes, and the file's own text ends and text bytes
unfoldable pub result_bytes : List ℕ → List ℕ → List ℕ
unfolding back_in
result_bytes bs w =
    head_bytes (node_count w) (u32 bs 16) (u32 bs 28) ++ node_bytes (map (back_in bs w) (tree w)) ++ drop (32 + 16 * u32 bs 8) bs

-- the buffer r after an answer: a refusal leaves it as it was, and the bytes behind the result stay
abbrev pub left : List ℕ → List ℕ → Answer → List ℕ
left out r (wrote n) = out ++ drop n r
left out r (refused k) = r

pub record Wrote (out r r' : List ℕ) (a : Answer) (x : Result ℕ Refusal) : Type 0 where
  pub is : says x ≡ a
  pub leaves : r' ≡ left out r a

-- the counts of the file's header, and words enough
pub record Counted (bs w : List ℕ) (h : Header) : Type 0 where
  pub source : Source bs w h.nodes
  pub texts : h.texts ≡ u32 bs 16
  pub bytes : h.bytes ≡ u32 bs 28
  pub few : h.texts ≤ 256
  pub small : h.bytes ≤ 4096
  pub size : length bs ≡ 32 + 16 * h.nodes + 4 * h.texts + h.bytes

-- What is said of the writer (request 11), without it: when two scripts are one, and when two ends of the pass are. Assumes nothing: these are definitions.
use Rattle.std.specs.Prelude.{◌≡◌, Bool, false, List, ℕ, T, eqb, length}
use Rattle.def_file.specs.Kinds.{uses_text}
use Rattle.def_file.specs.Script.{Script, has_id, text_at, node_at}
use Rattle.def_file.specs.Read.{script, read}
use Rattle.def_file.specs.Write.{file}
use Rattle.def_pass.specs.Paired.{Agree, Number}
use Rattle.def_pass.specs.Entry.{Entry, refused, passed}
use Rattle.def_canon.specs.Canon.{canon}

-- two scripts "differ only in text numbering, in unused texts, and by a one-to-one change of contexts": node for node they have one kind, form and
-- child count, and a text of the same bytes; what is no context is the same, and two contexts are equal in both or in none
pub record Differ (a b : Script) : Type 0 where
  pub count : length a.nodes ≡ length b.nodes
  pub shape : (n : ℕ) → Number a n → Agree (node_at a n) (node_at b n)
  pub texts : (n : ℕ) → Number a n → T (uses_text (node_at a n).kind) → text_at a (node_at a n).text ≡ text_at b (node_at b n).text
  pub bits : (n : ℕ) → Number a n → has_id (node_at a n) ≡ false → (node_at a n).bits ≡ (node_at b n).bits
  pub contexts : (m n : ℕ) → Number a m → Number a n → T (has_id (node_at a m)) → T (has_id (node_at a n)) → eqb (node_at a m).bits (node_at a n).bits ≡ eqb (node_at b m).bits (node_at b n).bits

-- "the same runs and mark and a result that is written to the same bytes": the results are readable files, and their canonical files are equal
pub record SameResults (k l : ℕ) (c d : Bool) (out out' : List ℕ) : Type 0 where
  pub runs : k ≡ l
  pub marks : c ≡ d
  pub one : Script
  pub two : Script
  pub one-read : read out ≡ script one
  pub two-read : read out' ≡ script two
  pub written : file (canon one) ≡ file (canon two)

-- two ends of the pass: "wherever neither is refusal 10, the same refusal, or the same runs and mark and a result ..."; where both are refusals they are
-- the same, 10 too
abbrev pub SameEnds : Entry → Entry → Type 0
SameEnds (refused n) (refused m) = n ≡ m
SameEnds (refused n) (passed j l d out' ss) = n ≡ 10
SameEnds (passed i k c out rs) (refused m) = m ≡ 10
SameEnds (passed i k c out rs) (passed j l d out' ss) = SameResults k l c d out out'

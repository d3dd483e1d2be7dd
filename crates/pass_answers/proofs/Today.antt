-- A call under a lent table beside the call without one. Assumes nothing.
use mathlib.Core.Path.{◌≡◌, ap, ◌∙◌}
use mathlib.Core.Bool.{true, false}
use mathlib.Core.List.{List}
use Prim.Native.Nat.{ℕ}
use lib.ListN.{length}
use Rattle.file_kinds.specs.declared.TheConstants.{KINDS}
use Rattle.def_file.specs.Script.{Script}
use Rattle.def_file.specs.Read.{script}
use Rattle.def_pass.specs.Script.{Root, Answer, pass_file}
use Rattle.def_pass.specs.Entry.{enough}
use Rattle.def_under.specs.Reading.{lent}
use Rattle.def_under.specs.Entry.{pass_under}
use Rattle.laws_under.specs.Today as whole
use Rattle.laws_under.proofs.Today.{unchanged, once-read}
use Rattle.file_read.proofs.Tables.{own-read}
use Rattle.pass_roots.specs.Listing as lists
use Rattle.pass_roots.specs.Nth.{nth}
use Rattle.pass_answers.specs.declared.Inlined.{Inlined}
use Rattle.pass_answers.specs.declared.Roots.{Roots}
use Rattle.pass_answers.specs.declared.RootBinding.{RootBinding}
use Rattle.pass_answers.specs.Entry.{numbers, left, InlineIs}
use Rattle.pass_answers.specs.Roots as roots
use Rattle.pass_answers.specs.Roots.{said, over_roots, RootsIs, RootIs, stopped, given, nth_numbers}
use Rattle.pass_answers.specs.Under.{over_under, InlineUnderIs, RootsUnderIs, RootUnderIs}
use Rattle.pass_answers.specs.Today.{Unchanged, Own}

same-over : {Z : Type 0} (stop : ℕ → Z) (of : List Root → Z) (T bs : List ℕ) (runs words : ℕ) → pass_under runs T bs ≡ pass_file runs bs → over_under stop of runs words T bs ≡ over_roots stop of runs words bs
unfolding over_under over_roots
same-over {Z} stop of T bs runs words e = ap {B = Z} (λ (x : Answer). elim (enough runs words) [ false ↦ stop 1 | true ↦ said stop of x ]) e

all-same : (T bs : List ℕ) → whole.Unchanged T bs → Unchanged T bs
all-same T bs u runs words room n = (
  u.entry runs words room,
  same-over lists.refused (lists.in_room room) T bs runs words (u.pass runs),
  same-over stopped (λ rs. given (nth n rs)) T bs runs words (u.pass runs),
)

pub own : Own
own bs = all-same KINDS bs (unchanged KINDS bs (own-read bs))

pub once : (T bs : List ℕ) (s : Script) → lent T bs ≡ script s → Unchanged T bs
once T bs s e = all-same T bs (once-read T bs s e)

-- so a call has the promise that it has without a table
module _ {T bs w w' : List ℕ} {runs : ℕ} (U : Unchanged T bs) where
  pub inline-as : {r r' : List ℕ} {c : Inlined} → InlineUnderIs T bs r r' w w' runs c → InlineIs bs r r' w w' runs c
  inline-as {r} X = let e = (U runs (length w) (length r) 0).0 in record { answer = X.answer ∙ ap numbers e; result = X.result ∙ ap (left r) e; words = X.words }

  pub roots-as : {r r' : List ℕ} {c : Roots} → RootsUnderIs T bs r r' w w' runs c → RootsIs bs r r' w w' runs c
  roots-as {r} X = let e = (U runs (length w) (length r) 0).1 in record { answer = X.answer ∙ ap roots.numbers e; roots = X.roots ∙ ap (lists.left r) e; words = X.words }

  pub root-as : {n : ℕ} {c : RootBinding} → RootUnderIs T bs w w' runs n c → RootIs bs w w' runs n c
  root-as {n} X = let e = (U runs (length w) 0 n).2 in record { answer = X.answer ∙ ap nth_numbers e; words = X.words }

-- No row has the number 0; what an exit by `?` answers. Assumes nothing.
use Rattle.std.proofs.Common.{◌≡◌, ◌<◌, Result, Err, IsErrAnd, arith}
use Rattle.std.proofs.lemmas.Result.{err_from_is_err_and}
use Rattle.refusal.specs.declared.Refusal.{Refusal}
use Rattle.refusal.specs.declared.Refusal.TheVariants.{Call, Version, Counts, Layout, Texts, Nodes, Idents, Depth, Room, Buffer, TextBuffer, NoText, Clash, Table, Pairs, CanonBuffer}
use Rattle.refusal.specs.Number.{number}

pub number-some : (r : Refusal) → 0 < number r
number-some Call = omega arith
number-some Version = omega arith
number-some Counts = omega arith
number-some Layout = omega arith
number-some Texts = omega arith
number-some Nodes = omega arith
number-some Idents = omega arith
number-some Depth = omega arith
number-some Room = omega arith
number-some Buffer = omega arith
number-some TextBuffer = omega arith
number-some NoText = omega arith
number-some Clash = omega arith
number-some Table = omega arith
number-some Pairs = omega arith
number-some CanonBuffer = omega arith

-- an exit by `?`: the answer is the refusal of the step
pub exit : {T : Type 0} {e : Refusal} (P : Result T Refusal → Type 0) (r : Result T Refusal) → IsErrAnd r (λ y. y ≡ e) → P (Err e) → P r
exit P r h p = let q = err_from_is_err_and r h in rw (q.1, q.2) p

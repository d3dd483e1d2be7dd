-- What is read under a table is read without it, and so passed. Assumes nothing.
use mathlib.Core.Path.{◌≡◌, sym, ap, ◌∙◌}
use mathlib.Core.Bool.{true, false}
use mathlib.Core.List.{List}
use Prim.Native.Nat.{ℕ}
use Rattle.def_file.specs.Read.{Read, read}
use Rattle.def_pass.specs.Script.{pass_read, pass_file}
use Rattle.def_pass.specs.Entry.{Entry, refused, enough, entry_read, entry}
use Rattle.def_under.specs.Reading.{lent}
use Rattle.def_under.specs.Entry.{pass_under, entry_under}
use Rattle.def_under.proofs.Reading.{lent-read}
use Rattle.laws_under.specs.Today.{Unchanged, OnceRead}

pub unchanged : (T bs : List ℕ) → lent T bs ≡ read bs → Unchanged T bs
unfolding pass_under pass_file entry_under entry
unchanged T bs e = record {
  pass = λ n. ap (pass_read n) e;
  entry = λ runs words room. ap {B = Entry} (λ (x : Read). elim (enough runs words) [ false ↦ refused 1 | true ↦ entry_read runs room x ]) e;
}

pub once-read : OnceRead
once-read T bs s e = unchanged T bs (e ∙ sym (lent-read T bs s e))

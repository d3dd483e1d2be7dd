-- The assignments of the port's result bytes. Assumes nothing.
use mathlib.Core.Path.{◌≡◌, refl, sym, ap, ap₂, ◌∙◌, subst}
use mathlib.Core.Bool.{Bool, true, false}
use mathlib.Core.List.{List, ◌++◌}
use Prim.Native.Nat.{ℕ}
use lib.Dec.{leb}
use lib.ListN.{length, drop}
use Rattle.def_file.specs.Script.{Script}
use Rattle.def_file.specs.Read.{Read, bad, script, read}
use Rattle.def_pass.specs.Script.{Answer, no!, yes!, pass, pass_read, pass_file}
use Rattle.def_pass.specs.Entry.{Entry, refused, passed, written, enough, entry_read, entry}
use Rattle.def_pass.specs.Paired.{file_of}
use Rattle.laws_pass.specs.FromFile.{TreesIn, TreesOf}
use Rattle.laws_pass.proofs.FromFile.{file-trees}
use Rattle.pass_answers.specs.Entry.{numbers, left}
use Rattle.def_tree.specs.Base.{to_nat}
use Rattle.pass_answers.specs.declared.Inlined.{Inlined}
use Rattle.pass_answers.specs.Rows.{Result}
use Rattle.pass_answers.specs.Assigns.{FileKept, BytesKept, AssignmentsStay}
use Rattle.pass_answers.proofs.Rows.{inline-zero}

-- of an end of the entry
abbrev Kept : ℕ → List ℕ → Entry → Type 0
Kept runs bs (refused m) = Unit {0}
Kept runs bs (passed n k c out rs) = (n ≡ length out) × FileKept bs out runs k c

kept-written : (bs : List ℕ) (runs room : ℕ) (s : Script) → read bs ≡ script s → (x : Answer) → pass_file runs bs ≡ x → TreesIn runs s x → Kept runs bs (written room s x)
kept-written bs runs room s e (no! m) q h = tt
kept-written bs runs room s e (yes! k c xs rs) q h = go (leb (length (file_of s xs)) room)
  where
    go : (p : Bool) → Kept runs bs (elim p [ true ↦ passed (length (file_of s xs)) k c (file_of s xs) rs | false ↦ refused 10 ])
    go true = (refl, record { script = s; nodes = xs; roots = rs; is = e; passed = q; file = refl; trees = h })
    go false = tt

kept_read : (bs : List ℕ) (runs room : ℕ) (x : Read) → read bs ≡ x → TreesOf runs x → Kept runs bs (entry_read runs room x)
unfolding pass_file
kept_read bs runs room (bad m) e h = tt
kept_read bs runs room (script s) e h = kept-written bs runs room s e (pass runs s) (ap (pass_read runs) e) h

kept_entry : (runs words : ℕ) (bs : List ℕ) (room : ℕ) → Kept runs bs (entry runs words bs room)
unfolding entry
kept_entry runs words bs room = go (enough runs words)
  where
    go : (p : Bool) → Kept runs bs (elim p [ false ↦ refused 1 | true ↦ entry_read runs room (read bs) ])
    go true = kept_read bs runs room (read bs) refl (file-trees runs bs)
    go false = tt

pub assignments-stay : AssignmentsStay
assignments-stay bs r r' w w' runs c X z = go (entry runs (length w) bs (length r)) (kept_entry runs (length w) bs (length r)) (inline-zero bs r r' w w' runs c X z) X.result X.answer
  where
    go : (e : Entry) → Kept runs bs e → Result e → r' ≡ left r e → c ≡ numbers e → BytesKept bs r r' runs c
    go (refused m) h k q a = absurd k
    go (passed n k m out rs) h j q a =
        let i : k ≡ c.runs = sym (ap (λ (x : Inlined). x.runs) a) in
        record {
          out = out;
          mark = m;
          begins = q ∙ ap (λ (y : ℕ). out ++ drop y r) h.0;
          told = a ∙ ap₂ {C = Inlined} (λ (y u : ℕ). record { refused = 0; length = y; runs = u; changed = to_nat m }) h.0 i;
          kept = subst (λ (y : ℕ). FileKept bs out runs y m) i h.1;
        }

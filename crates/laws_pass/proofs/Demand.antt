-- Demand 3, about the pass over two files, and about the whole entry. Assumes nothing.
use mathlib.Core.Path.{refl, sym, subst, subst₂}
use mathlib.Core.Bool.{Bool, true, false}
use Rattle.def_file.specs.Read.{Read, read}
use Rattle.def_pass.specs.Script.{pass, pass_read, pass_file}
use Rattle.def_pass.specs.Entry.{refused, enough, entry_read, entry}
use Rattle.def_pass.specs.Paired.{Alike, Kept, AlikeEntry}
use Rattle.laws_pass.specs.Demand.{Demand3, Demand3Entry}
use Rattle.laws_pass.proofs.Alike.{alike, kept}
use Rattle.laws_pass.proofs.Written.{written-alike}

-- from the files' bytes on
pub demand3 : Demand3
unfolding pass_file
demand3 as' bs a b p q P n = (
  subst₂ (λ (x y : Read). Alike a b (pass_read n x) (pass_read n y)) (sym p) (sym q) (alike a b P n),
  subst (λ (x : Read). Kept a (pass_read n x)) (sym p) (kept a n),
  subst (λ (x : Read). Kept b (pass_read n x)) (sym q) (kept b n),
)

pub demand3-entry : Demand3Entry
unfolding entry
demand3-entry as' bs a b p q P runs words room room' = go (enough runs words)
  where
    go : (c : Bool) → AlikeEntry a b (elim c [ false ↦ refused 1 | true ↦ entry_read runs room (read as') ]) (elim c [ false ↦ refused 1 | true ↦ entry_read runs room' (read bs) ])
    go false = refl
    go true = subst₂ (λ (x y : Read). AlikeEntry a b (entry_read runs room x) (entry_read runs room' y)) (sym p) (sym q) (written-alike a b room room' (pass runs a) (pass runs b) (alike a b P runs) (kept a runs) (kept b runs))

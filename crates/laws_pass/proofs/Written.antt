-- Two results of a pair of scripts, each written if its buffer has room. Assumes nothing.
use mathlib.Core.Path.{refl}
use mathlib.Core.Bool.{Bool, true, false}
use Prim.Native.Nat.{ℕ}
use lib.Dec.{leb}
use lib.ListN.{length}
use Rattle.def_file.specs.Script.{Script}
use Rattle.def_file.specs.Write.{file}
use Rattle.def_pass.specs.Script.{Answer, no!, yes! }
use Rattle.def_pass.specs.Entry.{refused, passed, written}
use Rattle.def_pass.specs.Paired.{Alike, Kept, file_of, AlikeEntry}

pub written-alike : (a b : Script) (room room' : ℕ) (x y : Answer) → Alike a b x y → Kept a x → Kept b y → AlikeEntry a b (written room a x) (written room' b y)
unfolding file
written-alike a b room room' (no! n) (no! m) h k l = h
written-alike a b room room' (no! n) (yes! j d ys ss) h k l = absurd h
written-alike a b room room' (yes! i c xs rs) (no! m) h k l = absurd h
written-alike a b room room' (yes! i c xs rs) (yes! j d ys ss) h k l = go (leb (length (file_of a xs)) room) (leb (length (file_of b ys)) room')
  where
    go : (p q : Bool) → AlikeEntry a b (elim p [ true ↦ passed (length (file_of a xs)) i c (file_of a xs) rs | false ↦ refused 10 ]) (elim q [ true ↦ passed (length (file_of b ys)) j d (file_of b ys) ss | false ↦ refused 10 ])
    go true true = record { one = xs; two = ys; one-file = refl; two-file = refl; one-length = refl; two-length = refl; results = h; one_kept = k; two-kept = l }
    go true false = refl
    go false true = refl
    go false false = refl

-- Demand 3 of the port. Assumes nothing.
use mathlib.Core.Path.{◌≡◌, refl, sym, ap, subst}
use mathlib.Core.Bool.{Bool, true, false, ◌&&◌}
use mathlib.Core.List.{List, [], ◌∷◌}
use Prim.Native.Nat.{ℕ, zero, suc, ◌*◌}
use lib.Dec.{leb}
use lib.ListN.{length}
use Rattle.def_file.specs.Script.{Script}
use Rattle.def_file.specs.Read.{Read, script, read}
use Rattle.def_pass.specs.Entry.{Entry, refused, passed, written, enough, entry_read, entry}
use Rattle.def_pass.specs.Script.{Root, Answer, no!, yes!, pass, pass_read, pass_file}
use Rattle.def_pass.specs.Paired.{Alike, AlikeRoots, AlikeEntry, file_of}
use Rattle.laws_pass.proofs.Demand.{demand3, demand3-entry}
use Rattle.pass_roots.specs.Listing as lists
use Rattle.pass_roots.specs.Nth.{nth}
use Rattle.pass_answers.specs.Roots as roots
use Rattle.pass_answers.specs.Demand.{Holds, Demand3Inline, AlikeListing, Demand3Roots, AlikeNth, Demand3Root}

-- of the words only whether they are enough matters
entry-words : (runs n m : ℕ) (bs : List ℕ) (room : ℕ) → leb 16384 n ≡ leb 16384 m → entry runs n bs room ≡ entry runs m bs room
unfolding entry
entry-words runs n m bs room e = ap {B = Entry} (λ (p : Bool). elim (leb 1 runs && leb runs 16 && p) [ false ↦ refused 1 | true ↦ entry_read runs room (read bs) ]) e

-- a written result holds the nodes that it was written from
holds : (s : Script) (room : ℕ) (x : Answer) → Holds s x (written room s x)
holds s room (no! m) = tt
holds s room (yes! k c xs rs) = go (leb (length (file_of s xs)) room)
  where
    go : (p : Bool) → Holds s (yes! k c xs rs) (elim p [ true ↦ passed (length (file_of s xs)) k c (file_of s xs) rs | false ↦ refused 10 ])
    go true = refl
    go false = tt

holds-entry : (runs words : ℕ) (bs : List ℕ) (room : ℕ) (s : Script) → read bs ≡ script s → Holds s (pass_file runs bs) (entry runs words bs room)
unfolding entry pass_file
holds-entry runs words bs room s q = go (enough runs words)
  where
    go : (p : Bool) → Holds s (pass_read runs (read bs)) (elim p [ false ↦ refused 1 | true ↦ entry_read runs room (read bs) ])
    go false = tt
    go true = subst (λ (x : Read). Holds s (pass_read runs x) (entry_read runs room x)) (sym q) (holds s room (pass runs s))

pub demand3-inline : Demand3Inline
demand3-inline as' bs a b p q P runs r r' w w' x s s' v v' y e X Y = record {
  one = entry runs (length w) as' (length r);
  two = entry runs (length v) bs (length s);
  one_answer = X.answer;
  two-answer = Y.answer;
  one-result = X.result;
  two-result = Y.result;
  alike = subst (λ (z : Entry). AlikeEntry a b (entry runs (length w) as' (length r)) z) (entry-words runs (length w) (length v) bs (length s) e) (demand3-entry as' bs a b p q P runs (length w) (length r) (length s));
  one_holds = holds-entry runs (length w) as' (length r) a p;
  two-holds = holds-entry runs (length v) bs (length s) b q;
  origins = (demand3 as' bs a b p q P runs).0;
  one_kept = (demand3 as' bs a b p q P runs).1;
  two-kept = (demand3 as' bs a b p q P runs).2;
}

-- what is said of the root bindings: R holds of one refusal, and of what is said of lists that are alike
module _ {Z : Type 0} (R : Z → Z → Type 0) (stop : ℕ → Z) (of of' : List Root → Z) (a b : Script)
    (stops : (m : ℕ) → R (stop m) (stop m))
    (lists-alike : (rs ss : List Root) → AlikeRoots a b rs ss → R (of rs) (of' ss)) where
  said-alike : (x y : Answer) → Alike a b x y → R (roots.said stop of x) (roots.said stop of' y)
  said-alike (no! n) (no! m) h = subst (λ (k : ℕ). R (stop n) (stop k)) h (stops n)
  said-alike (no! n) (yes! l d ys ss) h = absurd h
  said-alike (yes! k c xs rs) (no! m) h = absurd h
  said-alike (yes! k c xs rs) (yes! l d ys ss) h = lists-alike rs ss h.roots

  over-alike : (as' bs : List ℕ) (runs n m : ℕ) → leb 16384 n ≡ leb 16384 m → Alike a b (pass_file runs as') (pass_file runs bs) → R (roots.over_roots stop of runs n as') (roots.over_roots stop of' runs m bs)
  unfolding roots.over_roots
  over-alike as' bs runs n m e h =
      subst (λ (p : Bool). R (by (enough runs n) (roots.said stop of (pass_file runs as'))) (by (leb 1 runs && leb runs 16 && p) (roots.said stop of' (pass_file runs bs)))) e
      (go (enough runs n))
    where
      by : Bool → Z → Z
      by p x = elim p [ false ↦ stop 1 | true ↦ x ]

      go : (p : Bool) → R (by p (roots.said stop of (pass_file runs as'))) (by p (roots.said stop of' (pass_file runs bs)))
      go true = said-alike (pass_file runs as') (pass_file runs bs) h
      go false = stops 1

in-room : (a b : Script) (room room' : ℕ) (rs ss : List Root) → AlikeRoots a b rs ss → AlikeListing a b (lists.in_room room rs) (lists.in_room room' ss)
in-room a b room room' rs ss h = go (leb (5 * length rs) room) (leb (5 * length ss) room')
  where
    go : (p q : Bool) → AlikeListing a b (elim p [ false ↦ lists.refused 10 | true ↦ lists.listed rs ]) (elim q [ false ↦ lists.refused 10 | true ↦ lists.listed ss ])
    go true true = h
    go true false = refl
    go false true = refl
    go false false = refl

-- by their places
at_place : (a b : Script) (n : ℕ) (rs ss : List Root) → AlikeRoots a b rs ss → AlikeNth a b (roots.given (nth n rs)) (roots.given (nth n ss))
at_place a b n [] [] h = tt
at_place a b n [] (s ∷ ss) h = absurd h
at_place a b n (r ∷ rs) [] h = absurd h
at_place a b zero (r ∷ rs) (s ∷ ss) h = (h.0, h.1, h.2)
at_place a b (suc n) (r ∷ rs) (s ∷ ss) h = at_place a b n rs ss h.3

pub demand3-roots : Demand3Roots
demand3-roots as' bs a b p q P runs r r' w w' x s s' v v' y e X Y = record {
  one = roots.listing runs (length w) as' (length r);
  two = roots.listing runs (length v) bs (length s);
  one_answer = X.answer;
  two-answer = Y.answer;
  one-roots = X.roots;
  two-roots = Y.roots;
  alike = over-alike (AlikeListing a b) lists.refused (lists.in_room (length r)) (lists.in_room (length s)) a b (λ m. refl) (in-room a b (length r) (length s)) as' bs runs (length w) (length v) e (demand3 as' bs a b p q P runs).0;
}

pub demand3-root : Demand3Root
demand3-root as' bs a b p q P runs n w w' x v v' y e X Y = record {
  one = roots.nth_root runs (length w) as' n;
  two = roots.nth_root runs (length v) bs n;
  one_answer = X.answer;
  two-answer = Y.answer;
  alike = over-alike (AlikeNth a b) roots.stopped (λ rs. roots.given (nth n rs)) (λ ss. roots.given (nth n ss)) a b (λ m. refl) (at_place a b n) as' bs runs (length w) (length v) e (demand3 as' bs a b p q P runs).0;
}

-- The canonical form under a lent kind table: no pair of kinds changes, so that what is read stays read, and what is refused is refused alike. Assumes nothing.
use mathlib.Core.Path.{◌≡◌, refl, sym, ap, ap₂, ◌∙◌, subst₂}
use mathlib.Core.Bool.{Bool, true, false}
use mathlib.Core.List.{List, [], ◌∷◌, map}
use Prim.Native.Nat.{ℕ}
use Rattle.std.specs.Prelude.{Option, None}
use Rattle.def_tree.specs.Base.{pick}
use Rattle.def_kinds.specs.Pairs.{under, parents, pairs}
use Rattle.def_kinds.specs.Lent.{is_table, within}
use Rattle.def_file.specs.declared.Raw.{Raw}
use Rattle.def_file.specs.Script.{Script}
use Rattle.def_file.specs.Read.{Read, bad, script, read}
use Rattle.def_file.specs.Write.{file}
use Rattle.def_pass.specs.Entry as entries
use Rattle.def_pass.specs.Entry.{enough, entry_read}
use Rattle.def_canon.specs.Canon.{canon, canon_node, texts_used, contexts_used}
use Rattle.def_canon.specs.Differ.{SameEnds}
use Rattle.def_under.specs.Reading.{pairs_ok, read_under, constant, lent}
use Rattle.def_under.specs.Entry.{entry_under}
use Rattle.def_under.specs.Laws.{six}
use Rattle.def_under.proofs.Reading.{refusals, counted}
use Rattle.laws_under.proofs.Today.{once-read}
use Rattle.laws_canon.specs.Under.{SamePairs, CommutesUnder}
use Rattle.laws_canon.proofs.Laws.{read-canon}
use Rattle.laws_canon.proofs.Commutes.{commutes}

same : (T : List ℕ) (ts cs : List ℕ) (qs : List (Option ℕ)) (xs : List Raw) → pairs T qs (map (canon_node ts cs) xs) ≡ pairs T qs xs
unfolding pairs
same T ts cs qs [] = refl
same T ts cs [] (x ∷ xs) = refl
same T ts cs (q ∷ qs) (x ∷ xs) = ap {B = Bool} (λ (b : Bool). elim (under T q x.kind) [ true ↦ b | false ↦ false ]) (same T ts cs (parents x.kind x.arity qs) xs)

pub same-pairs : SamePairs
unfolding pairs_ok canon
same-pairs T s = same T (texts_used s) (contexts_used s) (None ∷ []) s.nodes

-- reading a file of a script under a table
by-pairs : (T bs : List ℕ) (s : Script) → read bs ≡ script s → read_under T bs ≡ pick (pairs_ok T s) (script s) (bad 6)
by-pairs T bs s e = refusals T bs ∙ ap₂ {C = Read} (λ (x : Script) (r : Read). pick (pairs_ok T x) r (six r)) (counted bs s e) e

-- the table's tests, and then what is read
by-tests : (T bs : List ℕ) (s : Script) (t w p : Bool) → read bs ≡ script s → is_table T ≡ t → within T constant ≡ w → pairs_ok T s ≡ p → lent T bs ≡ elim t [ false ↦ bad 14 | true ↦ elim w [ false ↦ bad 15 | true ↦ pick p (script s) (bad 6) ] ]
unfolding lent
by-tests T bs s t w p e h k q = ap₂ {C = Read} (λ (u v : Bool). elim u [ false ↦ bad 14 | true ↦ elim v [ false ↦ bad 15 | true ↦ read_under T bs ] ]) h k ∙ ap (λ (r : Read). elim t [ false ↦ bad 14 | true ↦ elim w [ false ↦ bad 15 | true ↦ r ] ]) (by-pairs T bs s e ∙ ap (λ (b : Bool). pick b (script s) (bad 6)) q)

-- two files that are refused by one number
refused-alike : (T as' bs : List ℕ) (n runs words room room' : ℕ) → lent T as' ≡ bad n → lent T bs ≡ bad n → SameEnds (entry_under runs words T as' room) (entry_under runs words T bs room')
unfolding entry_under
refused-alike T as' bs n runs words room room' h k =
    subst₂ (λ (x z : Read). SameEnds (elim (enough runs words) as (λ o. entries.Entry) [ false ↦ entries.refused 1 | true ↦ entry_read runs room x ]) (elim (enough runs words) as (λ o. entries.Entry) [ false ↦ entries.refused 1 | true ↦ entry_read runs room' z ])) (sym h) (sym k)
    (go (enough runs words))
  where
    go : (b : Bool) → SameEnds (elim b as (λ o. entries.Entry) [ false ↦ entries.refused 1 | true ↦ entries.refused n ]) (elim b as (λ o. entries.Entry) [ false ↦ entries.refused 1 | true ↦ entries.refused n ])
    go false = refl
    go true = refl

pub commutes-under : CommutesUnder
commutes-under T bs s y e runs words room room' = go (is_table T) (within T constant) (pairs_ok T s) refl refl refl
  where
    f : read (file (canon s)) ≡ script (canon s)
    f = read-canon bs s y e

    go : (t w p : Bool) → is_table T ≡ t → within T constant ≡ w → pairs_ok T s ≡ p → SameEnds (entry_under runs words T bs room) (entry_under runs words T (file (canon s)) room')
    go false w p h k q = refused-alike T bs (file (canon s)) 14 runs words room room' (by-tests T bs s false w p e h k q) (by-tests T (file (canon s)) (canon s) false w p f h k (same-pairs T s ∙ q))
    go true false p h k q = refused-alike T bs (file (canon s)) 15 runs words room room' (by-tests T bs s true false p e h k q) (by-tests T (file (canon s)) (canon s) true false p f h k (same-pairs T s ∙ q))
    go true true false h k q = refused-alike T bs (file (canon s)) 6 runs words room room' (by-tests T bs s true true false e h k q) (by-tests T (file (canon s)) (canon s) true true false f h k (same-pairs T s ∙ q))
    go true true true h k q =
        subst₂ (λ (x z : entries.Entry). SameEnds x z) (sym ((once-read T bs s (by-tests T bs s true true true e h k q)).entry runs words room))
        (sym ((once-read T (file (canon s)) (canon s) (by-tests T (file (canon s)) (canon s) true true true f h k (same-pairs T s ∙ q))).entry runs words room'))
        (commutes bs s y e runs words room room')

-- Reading under a lent table, by what is read without one. Assumes nothing.
use mathlib.Core.Path.{◌≡◌, refl, sym, ap, ◌∙◌}
use mathlib.Core.Bool.{Bool, true, false, ◌&&◌}
use mathlib.Core.List.{List}
use Prim.Native.Nat.{ℕ, ◌+◌, ◌*◌}
use lib.Dec.{eqb, leb}
use lib.ListN.{length, drop}
use Rattle.def_tree.specs.Base.{pick}
use Rattle.def_kinds.specs.Lent.{is_table, within}
use Rattle.def_file.specs.Script.{Script, idents}
use Rattle.def_file.specs.Read.{Read, bad, script, u32, ends_from, rising, distinct, nodes_ok, checked, read}
use Rattle.def_under.specs.Reading.{pairs_ok, checked_under, read_under, constant, lent}
use Rattle.def_under.specs.Laws.{script_in, six, Exactly, Refusals}

-- what an allowed or a forbidden pair makes of an answer
abbrev by : Bool → Read → Read
by p x = pick p x (six x)

-- a row up to 5 that is tested before
row : (p c : Bool) (m : ℕ) (x y : Read) → by p (bad m) ≡ bad m → y ≡ by p x → elim c [ false ↦ bad m | true ↦ y ] ≡ by p (elim c [ false ↦ bad m | true ↦ x ])
row p false m x y e h = sym e
row p true m x y e h = h

early : (p : Bool) (m : ℕ) → eqb m 7 ≡ false → by p (bad m) ≡ bad m
early true m e = refl
early false m e = ap (λ (q : Bool). bad (pick q 6 m)) e

-- rows 6 and 7
last : (p q r : Bool) (s : Script) → elim (q && p) [ false ↦ bad 6 | true ↦ elim r [ false ↦ bad 7 | true ↦ script s ] ] ≡ by p (elim q [ false ↦ bad 6 | true ↦ elim r [ false ↦ bad 7 | true ↦ script s ] ])
last true true r s = refl
last true false r s = refl
last false false r s = refl
last false true true s = refl
last false true false s = refl

pub refusals : Refusals
unfolding read_under read
refusals T bs =
    let s = script_in bs in
    let n = u32 bs 8 in
    let t = u32 bs 16 in
    let b = u32 bs 28 in
    let p = pairs_ok T s in
    row p (leb 32 (length bs) && eqb (u32 bs 0) 1) 2 _ _ (early p 2 refl)
    (row p (leb 1 n && leb n 1024 && leb t 256 && leb b 4096) 3 _ _ (early p 3 refl)
    (row p (eqb (u32 bs 4) (length bs) && eqb (u32 bs 12) 32 && eqb (u32 bs 20) (32 + 16 * n) && eqb (u32 bs 24) (32 + 16 * n + 4 * t) && eqb (u32 bs 4) (32 + 16 * n + 4 * t + b)) 4 _ _ (early p 4 refl)
    (row p (rising 0 (ends_from t (drop (32 + 16 * n) bs)) b && distinct s.texts) 5 (checked s) (checked_under T s) (early p 5 refl)
    (last p (nodes_ok s) (leb (length (idents s)) 256) s))))

-- a script that is read is the one that the header counts
only : (c : Bool) (m : ℕ) (x : Read) (s : Script) → elim c [ false ↦ bad m | true ↦ x ] ≡ script s → x ≡ script s
only true m x s e = e
only false m x s e = cc

same : (a b : Script) → script a ≡ script b → a ≡ b
same a b e = cc

pub counted : (bs : List ℕ) (s : Script) → read bs ≡ script s → script_in bs ≡ s
unfolding read
counted bs s e =
    let x = script_in bs in
    let n = u32 bs 8 in
    let t = u32 bs 16 in
    let b = u32 bs 28 in
    same x s
    (only (leb (length (idents x)) 256) 7 (script x) s
    (only (nodes_ok x) 6 _ s
    (only (rising 0 (ends_from t (drop (32 + 16 * n) bs)) b && distinct x.texts) 5 (checked x) s
    (only (eqb (u32 bs 4) (length bs) && eqb (u32 bs 12) 32 && eqb (u32 bs 20) (32 + 16 * n) && eqb (u32 bs 24) (32 + 16 * n + 4 * t) && eqb (u32 bs 4) (32 + 16 * n + 4 * t + b)) 4 _ s
    (only (leb 1 n && leb n 1024 && leb t 256 && leb b 4096) 3 _ s
    (only (leb 32 (length bs) && eqb (u32 bs 0) 1) 2 _ s e))))))

pub exactly : Exactly
exactly T bs s = (there (pairs_ok T (script_in bs)) refl, λ h. back h.0 h.1)
  where
    no-six : (x : Read) → six x ≡ script s → ⊥
    no-six (bad m) e = cc
    no-six (script y) e = cc

    there : (p : Bool) → pairs_ok T (script_in bs) ≡ p → read_under T bs ≡ script s → (read bs ≡ script s) × (pairs_ok T s ≡ true)
    there true q e = let r = sym (refusals T bs ∙ ap (λ (p : Bool). by p (read bs)) q) ∙ e in (r, ap (pairs_ok T) (sym (counted bs s r)) ∙ q)
    there false q e = absurd (no-six (read bs) (sym (refusals T bs ∙ ap (λ (p : Bool). by p (read bs)) q) ∙ e))

    back : read bs ≡ script s → pairs_ok T s ≡ true → read_under T bs ≡ script s
    back e q = refusals T bs ∙ ap (λ (p : Bool). by p (read bs)) (ap (pairs_ok T) (counted bs s e) ∙ q) ∙ e

-- what is read under a table that is lent is read without it
pub lent-read : (T bs : List ℕ) (s : Script) → lent T bs ≡ script s → read bs ≡ script s
unfolding lent
lent-read T bs s e = ((exactly T bs s).0 (only (within T constant) 15 _ s (only (is_table T) 14 _ s e))).0

-- A file longer than any readable one is refused by rows 2 to 4, which look at its header alone, and what it begins with by the same row.
-- Assumes nothing.
use mathlib.Core.Path.{◌≡◌, refl, sym, ap, ◌∙◌}
use mathlib.Core.Bool.{Bool, true, false, ◌&&◌}
use mathlib.Core.List.{List, [], ◌∷◌}
use Prim.Native.Nat.{ℕ, zero, suc, ◌+◌, ◌*◌, ◌≤◌}
use native.Mathlib.Omega.{arith}
use borrow.Author.Tests.{le-leb}
use lib.Dec.{leb, eqb}
use lib.ListN.{length, take, drop, length-take}
use Rattle.def_file.specs.Read.{Read, bad, number, u32, header, parts, read}
use Rattle.laws_roundtrip.proofs.Header.{row3, row4, headed, and-true}
use Rattle.def_kinds.specs.Lent.{is_table, within}
use Rattle.def_under.specs.Reading.{parts_under, read_under, constant, lent}
use Rattle.def_under.specs.Entry.{pass_under, entry_under}
use Rattle.def_pass.specs.Script.{Root, pass_read, pass_file}
use Rattle.def_pass.specs.Entry.{Entry, refused, enough, entry_read, entry}
use Rattle.pass_roots.specs.Listing as lists
use Rattle.pass_roots.specs.Nth.{nth}
use Rattle.pass_answers.specs.Roots.{said, over_roots, stopped, given}
use Rattle.pass_answers.specs.Under.{over_under}
use Rattle.pass_answers.specs.Long.{cut_at, CutAlike, CutAlikeUnder}

-- a field that is kept whole
number-take : (k m : ℕ) (bs : List ℕ) → k ≤ m → number k (take m bs) ≡ number k bs
number-take zero m bs l = refl
number-take (suc k) zero bs l = absurd (omega arith)
number-take (suc k) (suc m) [] l = refl
number-take (suc k) (suc m) (b ∷ bs) l = ap (λ (x : ℕ). b + 256 * x) (number-take k m bs (omega arith))

field-take : (k i m : ℕ) (bs : List ℕ) → i + k ≤ m → number k (drop i (take m bs)) ≡ number k (drop i bs)
field-take k zero m bs l = number-take k m bs (omega arith)
field-take k (suc i) zero bs l = absurd (omega arith)
field-take k (suc i) (suc m) [] l = refl
field-take k (suc i) (suc m) (b ∷ bs) l = field-take k i m bs (omega arith)

-- rows 2 to 4, by their tests, then the rest; and rows 2 and 3, then row 4 in any case
abbrev tested : Bool → Bool → Bool → Read → Read
tested p r s x = elim p [ false ↦ bad 2 | true ↦ elim r [ false ↦ bad 3 | true ↦ elim s [ false ↦ bad 4 | true ↦ x ] ] ]

abbrev long : ℕ → ℕ → ℕ → ℕ → Read
long v n t b = tested (eqb v 1) (row3 n t b) false (bad 4)

differ : true ≡ false → ⊥
differ q = let y : ◌≡◌ {A = ℕ} 0 1 = cc in omega arith

by_rows : (p q r s : Bool) (x : Read) → p ≡ true → (q ≡ true → r ≡ true → s ≡ true → ⊥) → tested (p && q) r s x ≡ tested q r false (bad 4)
by_rows false q r s x e h = absurd (differ (sym e))
by_rows true false r s x e h = refl
by_rows true true false s x e h = refl
by_rows true true true false x e h = refl
by_rows true true true true x e h = absurd (h refl refl refl)

refused-long : (bs : List ℕ) (x : Read) → 21537 ≤ length bs → header bs x ≡ long (u32 bs 0) (u32 bs 8) (u32 bs 16) (u32 bs 28)
refused-long bs x l =
    by_rows (leb 32 (length bs)) (eqb (u32 bs 0) 1) (row3 (u32 bs 8) (u32 bs 16) (u32 bs 28)) (row4 bs (u32 bs 8) (u32 bs 16) (u32 bs 28)) x enough-bytes
    (λ q r s. let h = headed bs (and-true enough-bytes q) r s in omega (arith, h.long, h.few, h.named, h.small, l))
  where
    enough-bytes : leb 32 (length bs) ≡ true
    enough-bytes = le-leb 32 (length bs) (omega (arith, l))

-- so that reading sees no more than the first 21,537 bytes of it
cut-header : (m : ℕ) (bs : List ℕ) (x y : Read) → 21537 ≤ m → 21537 ≤ length bs → header (take m bs) x ≡ header bs y
cut-header m bs x y k l =
    let cs = take m bs in
    refused-long cs x (omega (arith, length-take m bs))
    ∙ ap (λ (v : ℕ). long v (u32 cs 8) (u32 cs 16) (u32 cs 28)) (field-take 4 0 m bs (omega arith))
    ∙ ap (λ (n : ℕ). long (u32 bs 0) n (u32 cs 16) (u32 cs 28)) (field-take 4 8 m bs (omega arith))
    ∙ ap (λ (t : ℕ). long (u32 bs 0) (u32 bs 8) t (u32 cs 28)) (field-take 4 16 m bs (omega arith))
    ∙ ap (λ (b : ℕ). long (u32 bs 0) (u32 bs 8) (u32 bs 16) b) (field-take 4 28 m bs (omega arith))
    ∙ sym (refused-long bs y l)

cut-read : (m : ℕ) (bs : List ℕ) → 21537 ≤ m → 21537 ≤ length bs → read (take m bs) ≡ read bs
unfolding read
cut-read m bs k l = let cs = take m bs in cut-header m bs (parts (u32 cs 8) (u32 cs 16) (u32 cs 28) cs) (parts (u32 bs 8) (u32 bs 16) (u32 bs 28) bs) k l

cut-lent : (T : List ℕ) (m : ℕ) (bs : List ℕ) → 21537 ≤ m → 21537 ≤ length bs → lent T (take m bs) ≡ lent T bs
unfolding lent read_under
cut-lent T m bs k l =
    let cs = take m bs in
    ap {B = Read} (λ (x : Read). elim (is_table T) [ false ↦ bad 14 | true ↦ elim (within T constant) [ false ↦ bad 15 | true ↦ x ] ])
    (cut-header m bs (parts_under T (u32 cs 8) (u32 cs 16) (u32 cs 28) cs) (parts_under T (u32 bs 8) (u32 bs 16) (u32 bs 28) bs) k l)

cut-entry : (runs words : ℕ) (bs : List ℕ) (room m : ℕ) → 21537 ≤ m → 21537 ≤ length bs → entry runs words (take m bs) room ≡ entry runs words bs room
unfolding entry
cut-entry runs words bs room m k l = ap {B = Entry} (λ (x : Read). elim (enough runs words) [ false ↦ refused 1 | true ↦ entry_read runs room x ]) (cut-read m bs k l)

-- what is said of the root bindings
cut-over : {Z : Type 0} (stop : ℕ → Z) (of : List Root → Z) (runs words : ℕ) (bs : List ℕ) (m : ℕ) → 21537 ≤ m → 21537 ≤ length bs → over_roots stop of runs words (take m bs) ≡ over_roots stop of runs words bs
unfolding over_roots pass_file
cut-over {Z} stop of runs words bs m k l = ap {B = Z} (λ (x : Read). elim (enough runs words) [ false ↦ stop 1 | true ↦ said stop of (pass_read runs x) ]) (cut-read m bs k l)

pub cut-alike : CutAlike
cut-alike runs words bs room n l = (
  cut-entry runs words bs room cut_at (omega arith) l,
  cut-over lists.refused (lists.in_room room) runs words bs cut_at (omega arith) l,
  cut-over stopped (λ rs. given (nth n rs)) runs words bs cut_at (omega arith) l,
)

-- under a lent table
cut-entry_under : (runs words : ℕ) (T bs : List ℕ) (room m : ℕ) → 21537 ≤ m → 21537 ≤ length bs → entry_under runs words T (take m bs) room ≡ entry_under runs words T bs room
unfolding entry_under
cut-entry_under runs words T bs room m k l = ap {B = Entry} (λ (x : Read). elim (enough runs words) [ false ↦ refused 1 | true ↦ entry_read runs room x ]) (cut-lent T m bs k l)

cut-over_under : {Z : Type 0} (stop : ℕ → Z) (of : List Root → Z) (runs words : ℕ) (T bs : List ℕ) (m : ℕ) → 21537 ≤ m → 21537 ≤ length bs → over_under stop of runs words T (take m bs) ≡ over_under stop of runs words T bs
unfolding over_under pass_under
cut-over_under {Z} stop of runs words T bs m k l = ap {B = Z} (λ (x : Read). elim (enough runs words) [ false ↦ stop 1 | true ↦ said stop of (pass_read runs x) ]) (cut-lent T m bs k l)

pub cut-alike-under : CutAlikeUnder
cut-alike-under runs words T bs room n l = (
  cut-entry_under runs words T bs room cut_at (omega arith) l,
  cut-over_under lists.refused (lists.in_room room) runs words T bs cut_at (omega arith) l,
  cut-over_under stopped (λ rs. given (nth n rs)) runs words T bs cut_at (omega arith) l,
)

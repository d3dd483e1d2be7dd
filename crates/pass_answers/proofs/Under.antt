-- What holds of the C functions under a lent table. Assumes nothing.
use mathlib.Core.Path.{◌≡◌, refl, sym, ap, ◌∙◌, subst}
use mathlib.Core.Logic.{◌⊎◌, inl, inr}
use mathlib.Core.Bool.{Bool, true, false}
use mathlib.Core.List.{List}
use Prim.Native.Nat.{ℕ, ◌≤◌}
use native.Mathlib.Omega.{arith}
use lib.Dec.{eqb}
use lib.ListN.{length}
use Rattle.def_tree.specs.Base.{pick}
use Rattle.def_kinds.specs.Lent.{is_table, within}
use Rattle.def_file.specs.Script.{Script}
use Rattle.def_file.specs.Read.{Read, bad, script, read}
use Rattle.def_pass.specs.Script.{Root, Answer, no!, yes!, pass, pass_read}
use Rattle.def_pass.specs.Entry.{Entry, refused, passed, enough, entry_read}
use Rattle.def_under.specs.Reading.{pairs_ok, read_under, constant, lent}
use Rattle.def_under.specs.Laws.{script_in, six}
use Rattle.def_under.specs.Entry.{pass_under, entry_under}
use Rattle.def_under.proofs.Reading.{refusals, lent-read}
use Rattle.pass_roots.specs.Listing as lists
use Rattle.pass_roots.specs.Nth.{nth}
use Rattle.pass_answers.specs.declared.Inlined.{Inlined}
use Rattle.pass_answers.specs.declared.Roots.{Roots}
use Rattle.pass_answers.specs.declared.RootBinding.{RootBinding}
use Rattle.pass_answers.specs.Entry.{numbers}
use Rattle.pass_answers.specs.Roots as roots
use Rattle.pass_answers.specs.Rows.{EntryRow, ListingRow}
use Rattle.pass_answers.specs.Under.{over_under, RowUnder, EntryRowUnder, ListingRowUnder, NthRowUnder, RowsUnder}
use Rattle.pass_answers.specs.Today.{InlineToday, RootsToday, RootToday}
use Rattle.pass_answers.specs.DemandUnder.{Demand3InlineUnder, Demand3RootsUnder, Demand3RootUnder}
use Rattle.pass_answers.proofs.Rows.{Answers, Reads, r-pass, r-read, r-written, r-room}
use Rattle.pass_answers.proofs.Demands.{demand3-inline, demand3-roots, demand3-root}
use Rattle.pass_answers.proofs.Today.{once, inline-as, roots-as, root-as}

-- demand 3
pub demand3-inline-under : Demand3InlineUnder
demand3-inline-under T as' bs a b P runs r r' w w' x s s' v v' y e X Y =
    demand3-inline as' bs a b (lent-read T as' a P.one) (lent-read T bs b P.two) P.pair runs r r' w w' x s s' v v' y e (inline-as (once T as' a P.one) X) (inline-as (once T bs b P.two) Y)

pub demand3-roots-under : Demand3RootsUnder
demand3-roots-under T as' bs a b P runs r r' w w' x s s' v v' y e X Y =
    demand3-roots as' bs a b (lent-read T as' a P.one) (lent-read T bs b P.two) P.pair runs r r' w w' x s s' v v' y e (roots-as (once T as' a P.one) X) (roots-as (once T bs b P.two) Y)

pub demand3-root-under : Demand3RootUnder
demand3-root-under T as' bs a b P runs n w w' x v v' y e X Y =
    demand3-root as' bs a b (lent-read T as' a P.one) (lent-read T bs b P.two) P.pair runs n w w' x v v' y e (root-as (once T as' a P.one) X) (root-as (once T bs b P.two) Y)

-- reading under a table
abbrev Lent : Read → Type 0
Lent (bad n) = ((2 ≤ n) × (n ≤ 7)) ⊎ ((14 ≤ n) × (n ≤ 15))
Lent (script s) = Unit {0}

r-six : (p : Bool) (x : Read) → Reads x → Lent (pick p x (six x))
r-six true (bad n) h = inl h
r-six true (script s) h = tt
r-six false (bad n) h = inl (go (eqb n 7))
  where
    go : (q : Bool) → (2 ≤ pick q 6 n) × (pick q 6 n ≤ 7)
    go true = (omega arith, omega arith)
    go false = h
r-six false (script s) h = inl (omega arith, omega arith)

r-lent : (T bs : List ℕ) → Lent (lent T bs)
unfolding lent
r-lent T bs = go (is_table T) (within T constant)
  where
    go : (p q : Bool) → Lent (elim p [ false ↦ bad 14 | true ↦ elim q [ false ↦ bad 15 | true ↦ read_under T bs ] ])
    go false q = inr (omega arith, omega arith)
    go true false = inr (omega arith, omega arith)
    go true true = subst Lent (sym (refusals T bs)) (r-six (pairs_ok T (script_in bs)) (read bs) (r-read bs))

-- the C functions
entry-row : (e : Entry) → EntryRow e → EntryRowUnder e
entry-row (refused n) h = inl h
entry-row (passed n k c out rs) h = tt

listing-row : (x : lists.Listing) → ListingRow x → ListingRowUnder x
listing-row (lists.refused n) h = inl h
listing-row (lists.listed rs) h = tt

row-lent : (n : ℕ) → Lent (bad n) → RowUnder n
row-lent n (inl h) = inl (omega (arith, h.0), omega (arith, h.1))
row-lent n (inr h) = inr h

nth-row-lent : (n : ℕ) → Lent (bad n) → NthRowUnder (roots.stopped n)
nth-row-lent n (inl h) = inl (omega (arith, h.0), omega (arith, h.1))
nth-row-lent n (inr h) = inr h

r-entry_under : (runs words : ℕ) (T bs : List ℕ) (room : ℕ) → EntryRowUnder (entry_under runs words T bs room)
unfolding entry_under
r-entry_under runs words T bs room = go (enough runs words)
  where
    of : (x : Read) → Lent x → EntryRowUnder (entry_read runs room x)
    of (bad n) h = row-lent n h
    of (script s) h = entry-row _ (r-written room s (pass runs s) (r-pass runs s))

    go : (p : Bool) → EntryRowUnder (elim p [ false ↦ refused 1 | true ↦ entry_read runs room (lent T bs) ])
    go true = of (lent T bs) (r-lent T bs)
    go false = inl (omega arith, omega arith)

module _ {Z : Type 0} (R : Z → Type 0) (stop : ℕ → Z) (of : List Root → Z) (first : R (stop 1)) (reads : (m : ℕ) → Lent (bad m) → R (stop m)) (stops : (m : ℕ) → 2 ≤ m → m ≤ 9 → R (stop m)) (any : (rs : List Root) → R (of rs)) where
  r-said-under : (x : Answer) → Answers x → R (roots.said stop of x)
  r-said-under (no! n) h = stops n h.0 h.1
  r-said-under (yes! k c xs rs) h = any rs

  r-over_under : (runs words : ℕ) (T bs : List ℕ) → R (over_under stop of runs words T bs)
  unfolding over_under pass_under
  r-over_under runs words T bs = go (enough runs words)
    where
      read-so : (x : Read) → Lent x → R (roots.said stop of (pass_read runs x))
      read-so (bad n) h = reads n h
      read-so (script s) h = r-said-under (pass runs s) (r-pass runs s)

      go : (p : Bool) → R (elim p [ false ↦ stop 1 | true ↦ roots.said stop of (pass_read runs (lent T bs)) ])
      go true = read-so (lent T bs) (r-lent T bs)
      go false = first

pub rows-under : RowsUnder
rows-under runs words T bs room n = (
  r-entry_under runs words T bs room,
  r-over_under ListingRowUnder lists.refused (lists.in_room room) (inl (omega arith, omega arith)) row-lent (λ m h k. inl (omega (arith, h), omega (arith, k))) (λ rs. listing-row _ (r-room room rs)) runs words T bs,
  r-over_under NthRowUnder roots.stopped (λ rs. roots.given (nth n rs)) (inl (omega arith, omega arith)) nth-row-lent (λ m h k. inl (omega (arith, h), k)) (λ rs. tt) runs words T bs,
)

-- what is not refused was read: of an answer that has the number 0 only what reading is
no-zero : (n : ℕ) → Lent (bad n) → n ≡ 0 → ⊥
no-zero n (inl h) e = omega (arith, h.0, e)
no-zero n (inr h) e = omega (arith, h.0, e)

module _ (T bs : List ℕ) (runs words : ℕ) {Z C : Type 0} (refusal : C → ℕ) (answer : Z → C) (stop : ℕ → Z) (of : Read → Z) (says : (m : ℕ) → refusal (answer (stop m)) ≡ m) (stopped : (m : ℕ) → of (bad m) ≡ stop m) where
  was-read : refusal (answer (elim (enough runs words) [ false ↦ stop 1 | true ↦ of (lent T bs) ])) ≡ 0 → (s : Script) × (lent T bs ≡ script s)
  was-read z = go (enough runs words) (lent T bs) refl (r-lent T bs) z
    where
      go : (p : Bool) (x : Read) → lent T bs ≡ x → Lent x → refusal (answer (elim p [ false ↦ stop 1 | true ↦ of (lent T bs) ])) ≡ 0 → (s : Script) × (lent T bs ≡ script s)
      go false x e h z = absurd (omega (arith, says 1, z))
      go true (bad m) e h z = absurd (no-zero m h (sym (says m) ∙ sym (ap (λ (y : Z). refusal (answer y)) (ap of e ∙ stopped m)) ∙ z))
      go true (script s) e h z = (s, e)

pub inline-today : InlineToday
unfolding entry_under
inline-today T bs r r' w w' runs c X z =
    let g = was-read T bs runs (length w) (λ (x : Inlined). x.refused) numbers refused (entry_read runs (length r)) (λ m. refl) (λ m. refl) (sym (ap (λ (x : Inlined). x.refused) X.answer) ∙ z) in
    inline-as (once T bs g.0 g.1) X

pub roots-today : RootsToday
unfolding over_under pass_under
roots-today T bs r r' w w' runs c X z =
    let g = was-read T bs runs (length w) (λ (x : Roots). x.refused) roots.numbers lists.refused (λ (x : Read). roots.said lists.refused (lists.in_room (length r)) (pass_read runs x)) (λ m. refl) (λ m. refl) (sym (ap (λ (x : Roots). x.refused) X.answer) ∙ z) in
    roots-as (once T bs g.0 g.1) X

pub root-today : RootToday
unfolding over_under pass_under
root-today T bs w w' runs n c X z =
    let g = was-read T bs runs (length w) (λ (x : RootBinding). x.refused) roots.nth_numbers roots.stopped (λ (x : Read). roots.said roots.stopped (λ rs. roots.given (nth n rs)) (pass_read runs x)) (λ m. refl) (λ m. refl) (sym (ap (λ (x : RootBinding). x.refused) X.answer) ∙ z) in
    root-as (once T bs g.0 g.1) X

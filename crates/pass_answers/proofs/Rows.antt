-- The walks refuse by 8 or 9 alone, and a refusal's number is one of 1 to 10. Assumes nothing.
use mathlib.Core.Path.{◌≡◌, ap}
use mathlib.Core.Bool.{Bool, true, false}
use mathlib.Core.Option.{Option, none, some}
use mathlib.Core.List.{List}
use Prim.Native.Nat.{ℕ, ◌*◌, ◌≤◌}
use native.Mathlib.Omega.{arith}
use lib.Dec.{leb}
use lib.ListN.{length}
use Rattle.def_pass.specs.Tree.{Tree}
use Rattle.def_file.specs.Script.{Script}
use Rattle.def_file.specs.Read.{Read, bad, script, read}
use Rattle.def_pass.specs.Script.{Root, Answer, no!, yes!, answer, core_tree, pass_tree, pass, pass_read, pass_file}
use Rattle.def_pass.specs.Entry.{Entry, refused, passed, written, enough, entry_read, entry}
use Rattle.def_pass.specs.Paired.{file_of}
use Rattle.pass_roots.specs.Listing as lists
use Rattle.pass_roots.specs.Nth.{nth}
use Rattle.pass_answers.specs.Roots as roots
use Rattle.pass_answers.specs.declared.Inlined.{Inlined}
use Rattle.pass_answers.specs.declared.Roots.{Roots}
use Rattle.pass_answers.specs.declared.RootBinding.{RootBinding}
use Rattle.pass_answers.specs.Entry.{numbers}
use Rattle.pass_answers.specs.Rows.{EntryRow, ListingRow, NthRow, Rows, Result, Listed, Given, InlineZero, RootsZero, RootZero}
use Rattle.def_pass.specs.Walk as Walk
use Rattle.def_pass.specs.Twice.{flagged}
use Rattle.laws_pass.proofs.FromFile.{ReadsOk, read_ok}
use Rattle.laws_pass.proofs.Refusals.{Low, runs-low}

-- runs
abbrev Ends : Walk.Outcome → Type 0
Ends (Walk.refused n) = (6 ≤ n) × (n ≤ 9)
Ends (Walk.result k c t ms) = Unit {0}

r-runs : (o : Walk.Outcome) → Low o → Ends o
r-runs (Walk.refused n) h = (omega (arith, h.0), h.1)
r-runs (Walk.result k c t ms) h = tt

r-tree-pass : (n : ℕ) (o : Option Tree) → Ends (pass_tree n o)
unfolding Walk.core_pass
r-tree-pass n none = (omega arith, omega arith)
r-tree-pass n (some t) = r-runs (Walk.runs n 0 (flagged t) (Walk.start t)) (runs-low n 0 (flagged t) (Walk.start t))

-- a script's answer
abbrev pub Answers : Answer → Type 0
Answers (no! n) = (2 ≤ n) × (n ≤ 9)
Answers (yes! k c xs rs) = Unit {0}

r-answer : (s : Script) (o : Walk.Outcome) → Ends o → Answers (answer s o)
r-answer s (Walk.refused n) h = (omega (arith, h.0), h.1)
r-answer s (Walk.result k c t ms) h = tt

pub r-pass : (n : ℕ) (s : Script) → Answers (pass n s)
unfolding pass
r-pass n s = r-answer s (pass_tree n (core_tree s)) (r-tree-pass n (core_tree s))

-- reading
abbrev pub Reads : Read → Type 0
Reads (bad n) = (2 ≤ n) × (n ≤ 7)
Reads (script s) = Unit {0}

pub r-read : (bs : List ℕ) → Reads (read bs)
r-read bs = go (read bs) (read_ok bs)
  where
    go : (x : Read) → ReadsOk x → Reads x
    go (bad n) h = h
    go (script s) h = tt

-- the C functions
pub r-written : (room : ℕ) (s : Script) (x : Answer) → Answers x → EntryRow (written room s x)
r-written room s (no! n) h = (omega (arith, h.0), omega (arith, h.1))
r-written room s (yes! k c xs rs) h = go (leb (length (file_of s xs)) room)
  where
    go : (p : Bool) → EntryRow (elim p [ true ↦ passed (length (file_of s xs)) k c (file_of s xs) rs | false ↦ refused 10 ])
    go true = tt
    go false = (omega arith, omega arith)

pub r-room : (room : ℕ) (rs : List Root) → ListingRow (lists.in_room room rs)
r-room room rs = go (leb (5 * length rs) room)
  where
    go : (p : Bool) → ListingRow (elim p [ false ↦ lists.refused 10 | true ↦ lists.listed rs ])
    go true = tt
    go false = (omega arith, omega arith)

r-pass_read : (n : ℕ) (x : Read) → Reads x → Answers (pass_read n x)
r-pass_read n (bad m) h = (h.0, omega (arith, h.1))
r-pass_read n (script s) h = r-pass n s

r-entry_read : (n room : ℕ) (x : Read) → Reads x → EntryRow (entry_read n room x)
r-entry_read n room (bad m) h = (omega (arith, h.0), omega (arith, h.1))
r-entry_read n room (script s) h = r-written room s (pass n s) (r-pass n s)

r-entry : (runs words : ℕ) (bs : List ℕ) (room : ℕ) → EntryRow (entry runs words bs room)
unfolding entry
r-entry runs words bs room = go (enough runs words)
  where
    go : (p : Bool) → EntryRow (elim p [ false ↦ refused 1 | true ↦ entry_read runs room (read bs) ])
    go true = r-entry_read runs room (read bs) (r-read bs)
    go false = (omega arith, omega arith)

-- what is said of the root bindings
module _ {Z : Type 0} (R : Z → Type 0) (stop : ℕ → Z) (of : List Root → Z) (stops : (m : ℕ) → 1 ≤ m → m ≤ 9 → R (stop m)) (any : (rs : List Root) → R (of rs)) where
  r-said : (x : Answer) → Answers x → R (roots.said stop of x)
  r-said (no! n) h = stops n (omega (arith, h.0)) h.1
  r-said (yes! k c xs rs) h = any rs

  r-over : (runs words : ℕ) (bs : List ℕ) → R (roots.over_roots stop of runs words bs)
  unfolding roots.over_roots pass_file
  r-over runs words bs = go (enough runs words)
    where
      go : (p : Bool) → R (elim p [ false ↦ stop 1 | true ↦ roots.said stop of (pass_file runs bs) ])
      go true = r-said (pass_file runs bs) (r-pass_read runs (read bs) (r-read bs))
      go false = stops 1 (omega arith) (omega arith)

r-listing : (runs words : ℕ) (bs : List ℕ) (room : ℕ) → ListingRow (roots.listing runs words bs room)
r-listing runs words bs room = r-over ListingRow lists.refused (lists.in_room room) (λ m h k. (h, omega (arith, k))) (r-room room) runs words bs

r-nth : (runs words : ℕ) (bs : List ℕ) (n : ℕ) → NthRow (roots.nth_root runs words bs n)
r-nth runs words bs n = r-over NthRow roots.stopped (λ rs. roots.given (nth n rs)) (λ m h k. (h, k)) (λ rs. tt) runs words bs

pub rows : Rows
rows runs words bs room n = (r-entry runs words bs room, r-listing runs words bs room, r-nth runs words bs n)

-- so 0 tells a result
pub inline-zero : InlineZero
inline-zero bs r r' w w' runs c X z = go (entry runs (length w) bs (length r)) (r-entry runs (length w) bs (length r)) (ap (λ (x : Inlined). x.refused) X.answer)
  where
    go : (e : Entry) → EntryRow e → c.refused ≡ (numbers e).refused → Result e
    go (refused n) h q = absurd (omega (arith, h.0, q, z))
    go (passed n k d out rs) h q = tt

pub roots-zero : RootsZero
roots-zero bs r r' w w' runs c X z = go (roots.listing runs (length w) bs (length r)) (r-listing runs (length w) bs (length r)) (ap (λ (x : Roots). x.refused) X.answer)
  where
    go : (e : lists.Listing) → ListingRow e → c.refused ≡ (roots.numbers e).refused → Listed e
    go (lists.refused n) h q = absurd (omega (arith, h.0, q, z))
    go (lists.listed rs) h q = tt

pub root-zero : RootZero
root-zero bs w w' runs n c X z = go (roots.nth_root runs (length w) bs n) (r-nth runs (length w) bs n) (ap (λ (x : RootBinding). x.refused) X.answer)
  where
    go : (e : roots.NthRoot) → NthRow e → c.refused ≡ (roots.nth_numbers e).refused → Given e
    go (roots.stopped m) h q = absurd (omega (arith, h.0, q, z))
    go (roots.given r) h q = tt

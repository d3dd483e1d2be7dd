-- A value overwritten in a store of values. Assumes nothing.
use mathlib.Core.Path.{◌≡◌, refl, sym, ap, ◌∙◌}
use mathlib.Core.List.{List, []}
use mathlib.Core.Logic.{⊎_elim}
use Prim.Native.Nat.{ℕ, ◌+◌, ◌-◌, ◌*◌, ◌/◌, ◌≤◌, ◌<◌}
use native.Mathlib.Nat.{mul-le-mul, mul-div_cancel}
use native.Mathlib.Omega.{arith}
use lib.ListN.{length, get_or, set, length-set}
use lib.Seq.{get_or-set_same, get_or-set_other}
use Rattle.words.specs.Tab.{sum, below_or_not, sum-ext, sum-part, sum_one, sum-next, sum-zero, tab-zero}
use Rattle.words.specs.Layout.{run, tree, core_from}
use Rattle.words.specs.Moved.{Moved}
use Rattle.words.specs.declared.Run.{Run}
use Rattle.words.specs.declared.layout.Table.{Table}
use Rattle.words.proofs.Nodes.{run_length, run_moved, run-at, run_out, tree-at}
use Rattle.words_scopes.specs.State.{Names}
use Rattle.scope_values.specs.Steps.{IsStore, Spliced, Refilled, len_in, off_in, run_in}

-- two shifts
pub spliced : {w u v : List ℕ} (base at old end i m : ℕ) → 2064 ≤ base → i + m ≤ 1024 → at + old ≤ end → end ≤ 512 → m + end ≤ 512 + old
    → Moved w u (base + (at + old) * 2) (base + (at + m) * 2) ((end - at - old) * 2) → Moved u v (16 + i * 2) (base + at * 2) (m * 2) → Spliced w v base at old end i m
spliced base at old end i m hb hi ho he hm one two = record {
  size = two.size ∙ one.size;
  here = λ j l. two.here j l ∙ one.low (16 + i * 2 + j) (omega arith);
  behind = λ j l. two.high (base + (at + m) * 2 + j) (omega arith) ∙ one.here j l;
  low = λ j l. two.low j l ∙ one.low j (omega arith);
  high = λ j l. two.high j (omega arith) ∙ one.high j (omega arith);
}

-- a part of the tree has the names of the tree
pub run-names : (w : List ℕ) (i m : ℕ) → Names (tree w) → i + m ≤ get_or w 0 0 → Names (run w 16 i m)
run-names w i m t h j = ⊎_elim
    (λ (l : j < m). rw (run-at w 16 i m j l ∙ sym (tree-at w (i + j) (omega arith))) (t (i + j)))
    (λ (l : m ≤ j). rw (run_out w 16 i m j l) (λ e. omega arith))
    (below_or_not j m)

-- a word of a table of at most 256 records of at most 10 words
pub stride : (k s : ℕ) → k < 256 → s ≤ 10 → k * s ≤ 2560
stride k s h l = let p : k ≤ 256 = omega arith in mul-le-mul p l

-- a sum by its parts
pub ruleset sums = (sum-next, sum-zero)

-- a run of no nodes, by its length
no_run : (w : List ℕ) (base o n : ℕ) → n ≡ 0 → run w base o n ≡ []
unfolding run
no_run w base o n e = rw e (tab-zero (λ j. core_from w (base + (o + j) * 2)))

-- none gives way to none: all is as it was
pub unfilled : (w : List ℕ) (base : ℕ) (t : Table) (k n : ℕ) (r : Run) → len_in w t k ≡ 0 → r.len ≡ 0 → Refilled w w base t k n r
unfilled w base t k n r old new = record {
  size = refl;
  this = no_run w base (off_in w t k) (len_in w t k) old ∙ sym (no_run w 16 r.at r.len new);
  other = λ j l e. refl;
  out = λ j l e. refl;
}

-- value k of n becomes the run r: spliced, and its length is stored
module _ {w v : List ℕ} {base : ℕ} {t : Table} (is : IsStore base t) (k n : ℕ) (r : Run) (h : k < n) (small : k * t.stride ≤ 2560) (long : 16384 ≤ length w)
    (tree : r.at + r.len ≤ 1024) (vals : off_in w t n ≤ 512) (room : r.len + off_in w t n ≤ 512 + len_in w t k)
    (s : Spliced w v base (off_in w t k) (len_in w t k) (off_in w t n) r.at r.len) where
  all : off_in w t k + len_in w t k ≤ off_in w t n
  all = sum-part (λ j. len_in w t j) k n h

  abbrev len : ℕ → ℕ
  len j = t.base + j * t.stride

  abbrev w' : List ℕ
  w' = set v (len k) r.len

  alone : (j : ℕ) → len j ≡ len k → j ≡ k
  alone j e = let p : j * t.stride ≡ k * t.stride = omega arith in sym (mul-div_cancel j is.4) ∙ ap (λ (m : ℕ). m / t.stride) p ∙ mul-div_cancel k is.4

  low : (j : ℕ) → j < base + off_in w t k * 2 → get_or w' j 0 ≡ get_or w j 0
  low j l = get_or-set_other v (len k) j r.len 0 (λ e. omega (arith, all)) ∙ s.low j l

  high : (j : ℕ) → base + 1024 ≤ j → (j ≡ len k → ⊥) → get_or w' j 0 ≡ get_or w j 0
  high j l d = get_or-set_other v (len k) j r.len 0 d ∙ s.high j l

  len-this : len_in w' t k ≡ r.len
  len-this = get_or-set_same v (len k) r.len 0 (omega (arith, s.size))

  len-other : (j : ℕ) → (j ≡ k → ⊥) → len_in w' t j ≡ len_in w t j
  len-other j d = high (len j) (omega arith) (λ e. d (alone j e))

  off-low : (j : ℕ) → j ≤ k → off_in w' t j ≡ off_in w t j
  off-low j l = sum-ext (λ q. len_in w' t q) (λ q. len_in w t q) j (λ q a. len-other q (λ e. omega arith))

  off-high : (j : ℕ) → k < j → off_in w' t j + len_in w t k ≡ off_in w t j + r.len
  off-high j l = sum_one (λ q. len_in w' t q) (λ q. len_in w t q) k j l (λ q a d. len-other q d) ∙ ap (λ (q : ℕ). off_in w t j + q) len-this

  run-this : run_in w' base t k ≡ run w 16 r.at r.len
  run-this = rw (len-this, off-low k (omega arith)) (run_moved w w' 16 r.at base (off_in w t k) r.len
      (λ q l. get_or-set_other v (len k) (base + off_in w t k * 2 + q) r.len 0 (λ e. omega (arith, all)) ∙ s.here q l))

  run-low : (j : ℕ) → j < k → run_in w' base t j ≡ run_in w base t j
  run-low j l =
      let a = sum-part (λ q. len_in w t q) j k l in
      rw (len-other j (λ e. omega arith), off-low j (omega arith)) (run_moved w w' base (off_in w t j) base (off_in w t j) (len_in w t j) (λ q m. low (base + off_in w t j * 2 + q) (omega arith)))

  run-high : (j : ℕ) → k < j → j < n → run_in w' base t j ≡ run_in w base t j
  run-high j l g =
      let a = sum-part (λ q. len_in w t q) k j l in
      let b = sum-part (λ q. len_in w t q) j n g in
      let o = off-high j l in
      rw (len-other j (λ e. omega arith)) (run_moved w w' base (off_in w t j) base (off_in w' t j) (len_in w t j)
      (λ q m.
      let d : ℕ = (off_in w t j - off_in w t k - len_in w t k) * 2 + q in
      let e1 : base + off_in w' t j * 2 + q ≡ base + (off_in w t k + r.len) * 2 + d = omega arith in
      let e2 : base + off_in w t j * 2 + q ≡ base + (off_in w t k + len_in w t k) * 2 + d = omega arith in
      rw (e1, e2) (get_or-set_other v (len k) (base + (off_in w t k + r.len) * 2 + d) r.len 0 (λ e. omega arith) ∙ s.behind d (omega arith))))

  pub refilled : Refilled w w' base t k n r
  refilled = record {
    size = simp length-set s.size;
    this = run-this;
    other = λ j l d. ⊎_elim (λ (q : j < k). run-low j q) (λ (q : k ≤ j). run-high j (omega arith) l) (below_or_not j k);
    out = λ j o d. ⊎_elim (λ (l : j < base). low j (omega arith)) (λ (l : base + 1024 ≤ j). high j l d) o;
  }

-- the nodes of all its values
module _ {w w' : List ℕ} {base : ℕ} {t : Table} {k n : ℕ} {r : Run} (s : Refilled w w' base t k n r) where
  long : (xs : List ℕ) (j : ℕ) → length (run_in xs base t j) ≡ len_in xs t j
  long xs j = run_length xs base (off_in xs t j) (len_in xs t j)

  pub refilled-sum : k < n → off_in w' t n + len_in w t k ≡ off_in w t n + r.len
  refilled-sum h =
      sum_one (λ j. len_in w' t j) (λ j. len_in w t j) k n h (λ j l d. sym (long w' j) ∙ ap length (s.other j l d) ∙ long w j)
      ∙ ap (λ (m : ℕ). off_in w t n + m) (sym (long w' k) ∙ ap length s.this ∙ run_length w 16 r.at r.len)

-- The words of one binding overwritten, but its name and its value. Assumes nothing.
use mathlib.Core.Path.{◌≡◌, refl, ap, ◌∙◌}
use mathlib.Core.List.{List}
use mathlib.Core.Logic.{◌⊎◌, inl, inr, ⊎_elim}
use Prim.Native.Nat.{ℕ, ◌+◌, ◌*◌, ◌≤◌, ◌<◌}
use native.Mathlib.Omega.{arith}
use lib.ListN.{get_or, set}
use Rattle.words.specs.Tab.{below_or_not}
use Rattle.words.specs.Layout.{yes}
use Rattle.words.specs.Moved.{Put}
use Rattle.words.proofs.Nodes.{beyond-same}
use Rattle.words.proofs.Yes.{yes-from_bool}
use Rattle.words_scopes.specs.Kinds.{type_of, alias_of}
use Rattle.words_scopes.specs.declared.Record.{Record}
use Rattle.words_scopes.specs.State.{Good, Past, binds, consts, bind_at, with_count, var_type_of, alias_at, value_of, words_of}
use Rattle.words_scopes.proofs.Words.{Kept, Runs, runs-good, runs-at, bind-eq, bind-same, count-apart, count_kept, count-good, count-this, count-other}
use Rattle.scope_values.specs.Steps.{Listed, refill}
use Rattle.scope_values.proofs.Listed.{kept-listed, set-binds}

module _ (w x : List ℕ) (g : Good w) (k : ℕ) (h : k < get_or w 1 0) (r : Record) (kind alias : ℕ) (ek : var_type_of kind ≡ type_of r.kind) (ea : alias_at alias ≡ alias_of r.alias)
    (one : Put w x (4112 + k * 10 + 1) (words_of r kind alias)) where
  abbrev p : ℕ
  p = 4112 + k * 10

  out : (j : ℕ) → (j ≤ p) ⊎ (p + 8 ≤ j) → get_or x j 0 ≡ get_or w j 0
  out j o = ⊎_elim (λ (l : j ≤ p). one.low j (omega arith)) (λ (l : p + 8 ≤ j). one.high j (omega arith)) o

  -- field q of any record, of those that stay
  aside : (j q : ℕ) → q < 10 → (q ≡ 0) ⊎ (8 ≤ q) → get_or x (4112 + j * 10 + q) 0 ≡ get_or w (4112 + j * 10 + q) 0
  aside j q l o = ⊎_elim
      (λ (m : j < k). out (4112 + j * 10 + q) (inl (omega arith)))
      (λ (m : k ≤ j). ⊎_elim
      (λ (s : q ≡ 0). ⊎_elim (λ (t : j ≤ k). out (4112 + j * 10 + q) (inl (omega arith))) (λ (t : k < j). out (4112 + j * 10 + q) (inr (omega arith))) (or j k))
      (λ (s : 8 ≤ q). out (4112 + j * 10 + q) (inr (omega arith))) o) (lt j k)
    where
      lt : (i n : ℕ) → (i < n) ⊎ (n ≤ i)
      lt i n = below_or_not i n

      or : (i n : ℕ) → (i ≤ n) ⊎ (n < i)
      or i n = ⊎_elim (λ (a : n < i). inr a) (λ (a : i ≤ n). inl a) (below_or_not n i)

  name : (j : ℕ) → get_or x (4112 + j * 10) 0 ≡ get_or w (4112 + j * 10) 0
  name j = let e : 4112 + j * 10 + 0 ≡ 4112 + j * 10 = omega arith in rw e at (aside j 0 (omega arith) (inl refl))

  re-kept : Kept w x
  re-kept = let l = g.count in record {
    size = one.size;
    counts = λ j a b. out j (inl (omega arith));
    nodes = λ j a b. out j (inl (omega arith));
    cstore = λ j a b. out j (inl (omega arith));
    tail = λ j a b. out j (inr (omega arith));
    high = λ j a b. out j (inr (omega arith));
    flag = λ j a. aside j 9 (omega arith) (inr (omega arith));
    rest = beyond-same w x one.size (λ j a. out j (inr (omega arith)));
  }

  re-runs : Runs w x
  re-runs = record { lens = λ j a. aside j 8 (omega arith) (inr (omega arith)); ids = λ j a. name j; store = λ j a b. out j (inl (omega arith)) }

  times : (j : ℕ) → get_or x (8080 + j) 0 ≡ get_or w (8080 + j) 0
  times j = out (8080 + j) (inr (omega (arith, g.count)))

  -- word q of the record
  at : (q n : ℕ) → q < 7 → n ≡ p + 1 + q → get_or x n 0 ≡ get_or (words_of r kind alias) q 0
  at q n l e = rw e (one.here q l)

  this : bind_at x k ≡ refill r (bind_at w k)
  this =
      bind-eq (name k) (ap var_type_of (at 0 (p + 1) (omega arith) (omega arith)) ∙ ek) (ap alias_at (at 1 (p + 2) (omega arith) (omega arith)) ∙ ea) (at 2 (p + 3) (omega arith) (omega arith))
      (ap yes (at 3 (p + 4) (omega arith) (omega arith)) ∙ yes-from_bool r.prevented) (ap yes (at 4 (p + 5) (omega arith) (omega arith)) ∙ yes-from_bool r.undefined) (ap value_of (runs-at g re-runs k h))
      (ap yes (at 5 (p + 6) (omega arith) (omega arith)) ∙ yes-from_bool r.this_sensitive) (ap yes (at 6 (p + 7) (omega arith) (omega arith)) ∙ yes-from_bool r.hoisted) (times k)

  pub rewritten : Listed w x (set (binds w) k (refill r (bind_at w k))) (consts w)
  rewritten = kept-listed g re-kept (runs-good g re-runs re-kept) (set-binds w k h x (refill r (bind_at w k)) (re-kept.counts 1 (omega arith) (omega arith)) this
      (λ j l e. bind-same w x j (λ q a b. ⊎_elim (λ (s : j < k). out q (inl (omega arith))) (λ (s : k ≤ j). out q (inr (other q j k a s e))) (below_or_not j k)) (runs-at g re-runs j l) (times j)))
    where
      other : (q j k : ℕ) → 4112 + j * 10 ≤ q → k ≤ j → (j ≡ k → ⊥) → 4112 + k * 10 + 8 ≤ q
      other q j k a s e = omega arith

  pub rewritten-past : Past (k + 1) w x
  rewritten-past = (λ j a b. out j (inr (omega arith)), λ j a b. out j (inr (omega (arith, g.count))))

-- the count of binding k is overwritten
module _ (w : List ℕ) (g : Good w) (k : ℕ) (h : k < get_or w 1 0) (count : ℕ) where
  pub recounted : Listed w (set w (8080 + k) count) (set (binds w) k (with_count count (bind_at w k))) (consts w)
  recounted =
      let t = count_kept w g k h count in
      kept-listed g t (count-good w g k h count) (set-binds w k h (set w (8080 + k) count) (with_count count (bind_at w k)) (t.counts 1 (omega arith) (omega arith)) (count-this w g k h count) (count-other w g k h count))

  pub recounted-past : Past (k + 1) w (set w (8080 + k) count)
  recounted-past = let l = g.count in (λ j a b. count-apart w g k h count j (λ e. omega arith), λ j a b. count-apart w g k h count j (λ e. omega arith))

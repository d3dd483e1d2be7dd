-- Words in which only barriers and unresolved uses differ: what their scopes are. Assumes nothing.
use mathlib.Core.Path.{◌≡◌, refl, sym, ap, ◌∙◌}
use mathlib.Core.List.{List, ◌∷◌, map}
use mathlib.Core.Bool.{Bool, false, ◌||◌}
use mathlib.Core.Option.{Option}
use mathlib.Core.Logic.{◌⊎◌, inl, inr, ⊎_elim}
use Prim.Native.Nat.{◌/◌, ℕ, zero, suc, ◌+◌, ◌-◌, ◌*◌, ◌≤◌, ◌<◌}
use native.Mathlib.Nat.{eq-or-lt_of_le}
use native.Mathlib.Omega.{arith}
use borrow.Author.Tests.{eq-eqb, ne_eqb}
use lib.ListN.{length, get_or, set, length-drop, length-set}
use lib.Dec.{eqb}
use lib.Seq.{get_or-set_same, get_or-set_other, drop-set-lt}
use Rattle.def_tree.specs.Tree.{Tree}
use Rattle.def_pass.specs.Scope.{VarInfo, Scope, ScopeKind, Stack, add_unresolved, store_inline_barrier}
use Rattle.words.specs.Tab.{tab, tab-ext, length-tab, get_d-tab, get_d-tab-out, same_or_not, below_or_not, sum-ext, sum-part}
use Rattle.words.specs.Layout.{yes, Agree, tree, beyond}
use Rattle.words.proofs.Nodes.{run-same}
use Rattle.words.specs.Flags.{flag_at, Flagged}
use Rattle.words.proofs.Flags.{flag_same}
use Rattle.words_scopes.specs.State.{scope_kind_of, len_at, off, run_at, bind_at, const_at, unres_at, heads_at, heads, stack, Fits, CFits, Good, Becomes}
use Rattle.words_scopes.proofs.Words.{bind-same, part-coff, part-crun, part-consts, part-tree, free-same}
use Rattle.words_scopes.proofs.Index.{begins-same, beside_same}
use Rattle.scope_find.specs.Look.{first, cfirst, scope_at, below}
use Rattle.scope_find.specs.Touched.{Touched, BarStored}
use Rattle.scope_find.proofs.Out as out
use Rattle.scope_find.proofs.Facts as facts

pub touched-self : (w : List ℕ) → Touched w w
touched-self w = record { size = refl; low = λ j a b. refl; heads = λ j a b c. refl; high = λ j a b. refl; rest = refl }

pub touched-then : {u v w : List ℕ} → Touched u v → Touched v w → Touched u w
touched-then a b = record {
  size = b.size ∙ a.size;
  low = λ j l d. b.low j l d ∙ a.low j l d;
  heads = λ j l h d. b.heads j l h d ∙ a.heads j l h d;
  high = λ j l h. b.high j l h ∙ a.high j l h;
  rest = b.rest ∙ a.rest;
}

scope-eq : {k k' : ScopeKind} {b u : ℕ → Bool} {bs bs' : List VarInfo} {cs cs' : List (ℕ × Option Tree)} → k ≡ k' → bs ≡ bs' → cs ≡ cs'
    → ◌≡◌ {A = Scope} (record { kind = k; inline_barriers = b; bindings = bs; unresolved_usages = u; constants = cs }) (record { kind = k'; inline_barriers = b; bindings = bs'; unresolved_usages = u; constants = cs' })
scope-eq p q r = cc

module _ {w w' : List ℕ} (g : Good w) (t : Touched w w') where
  -- words that are no barrier's
  plain : (lo hi : ℕ) → hi ≤ 4112 → Agree lo hi w w'
  plain lo hi h j a b = t.low j (omega arith) (λ i n e. omega arith)

  count : (j : ℕ) → j < 4 → get_or w' j 0 ≡ get_or w j 0
  count j h = t.low j (omega arith) (λ i n e. omega arith)

  field : (k q : ℕ) → k < 256 → q < 9 → get_or w' (4112 + k * 10 + q) 0 ≡ get_or w (4112 + k * 10 + q) 0
  field k q h l = t.low (4112 + k * 10 + q) (omega arith) (λ i n e. omega arith)

  name : (k : ℕ) → k < 256 → get_or w' (4112 + k * 10) 0 ≡ get_or w (4112 + k * 10) 0
  name k h = t.low (4112 + k * 10) (omega arith) (λ i n e. omega arith)

  const : (n : ℕ) → n ≤ 256 → Agree 6672 (6672 + n * 2) w w'
  const n h j a b = t.low j (omega arith) (λ i n e. omega arith)

  head : (k q : ℕ) → k < 32 → q < 3 → get_or w' (7184 + k * 4 + q) 0 ≡ get_or w (7184 + k * 4 + q) 0
  head k q h l = t.heads (7184 + k * 4 + q) (omega arith) (omega arith) (λ i n e. omega arith)

  head-kind : (k : ℕ) → k < 32 → get_or w' (7184 + k * 4) 0 ≡ get_or w (7184 + k * 4) 0
  head-kind k h = t.heads (7184 + k * 4) (omega arith) (omega arith) (λ i n e. omega arith)

  -- values and bindings
  off-same : (k : ℕ) → k ≤ 256 → off w' k ≡ off w k
  off-same k h = sum-ext (λ j. len_at w' j) (λ j. len_at w j) k (λ j l. field j 8 (omega arith) (omega arith))

  run-at : (k : ℕ) → k < get_or w 1 0 → run_at w' k ≡ run_at w k
  run-at k h =
      let l = g.count in
      rw (off-same k (omega arith), field k 8 (omega arith) (omega arith))
      (run-same w w' 2064 (off w k) (len_at w k) 512 (omega (arith, sum-part (λ j. len_at w j) k (get_or w 1 0) h, g.vals)) (plain 2064 3088 (omega arith)))

  bind-at : (k : ℕ) → k < get_or w 1 0 → bind_at w' k ≡ bind_at w k
  bind-at k h = let l = g.count in bind-same w w' k (λ j a b. t.low j (omega arith) (λ i n e. omega arith)) (run-at k h) (t.high (8080 + k) (omega arith) (omega arith))

  fits-same : (k n : ℕ) → k ≤ 32 → Fits (heads_at w k) n → Fits (heads_at w' k) n
  unfolding heads_at
  fits-same zero n h f = f
  fits-same (suc k) n h f = let e = head k 1 (omega arith) (omega arith) in rw e (f.0, fits-same k (get_or w (7184 + k * 4 + 1) 0) (omega arith) f.1)

  cfits-same : (k n : ℕ) → k ≤ 32 → CFits (heads_at w k) n → CFits (heads_at w' k) n
  unfolding heads_at
  cfits-same zero n h f = f
  cfits-same (suc k) n h f = let e = head k 2 (omega arith) (omega arith) in rw e (f.0, cfits-same k (get_or w (7184 + k * 4 + 2) 0) (omega arith) f.1)

  same-tree : tree w' ≡ tree w
  same-tree = part-tree w' g (count 0 (omega arith)) (plain 16 2064 (omega arith))

  abbrev cstore : Agree 3088 4112 w w'
  cstore = plain 3088 4112 (omega arith)

  pub touched-good : Good w'
  unfolding heads
  touched-good = record {
    long = rw t.size g.long;
    nodes = rw (count 0 (omega arith)) g.nodes;
    count = rw (count 1 (omega arith)) g.count;
    depth = rw (count 2 (omega arith)) g.depth;
    ccount = rw (count 3 (omega arith)) g.ccount;
    vals = rw (count 1 (omega arith), off-same (get_or w 1 0) g.count) g.vals;
    cvals = rw (count 3 (omega arith), part-coff w' g (get_or w 3 0) (omega arith) cstore (const (get_or w 3 0) g.ccount) (get_or w 3 0) (omega arith)) g.cvals;
    live = rw (count 1 (omega arith), count 3 (omega arith)) g.live;
    recorded = rw (count 1 (omega arith), count 3 (omega arith), off-same (get_or w 1 0) g.count, part-coff w' g (get_or w 3 0) (omega arith) cstore (const (get_or w 3 0) g.ccount) (get_or w 3 0) (omega arith)) g.recorded;
    fits = rw (count 2 (omega arith), count 1 (omega arith)) (fits-same (get_or w 2 0) (get_or w 1 0) g.depth g.fits);
    cfits = rw (count 2 (omega arith), count 3 (omega arith)) (cfits-same (get_or w 2 0) (get_or w 3 0) g.depth g.cfits);
    ids = rw (count 1 (omega arith)) (λ k l. let c = g.count in rw (name k (omega arith)) (g.ids k l));
    cids = rw (count 3 (omega arith)) (λ k l. rw (const (get_or w 3 0) g.ccount (6672 + k * 2) (omega arith) (omega arith)) (g.cids k l));
    names = rw same-tree g.names;
    whole = rw (count 1 (omega arith)) (λ k l. rw (run-at k l) (g.whole k l));
    cwhole = rw (count 3 (omega arith)) (λ k l. rw (part-crun w' g (get_or w 3 0) (omega arith) cstore (const (get_or w 3 0) g.ccount) k l) (g.cwhole k l));
    beside = beside_same g.beside (count 1 (omega arith)) (rw (count 2 (omega arith)) (begins-same w w' (get_or w 2 0) (λ k l. head k 1 (omega (arith, g.depth)) (omega arith)))) (λ k l. name k (omega (arith, g.count))) (λ j a b. t.high j a (omega arith)) g.count;
    cfree = rw (count 3 (omega arith)) (λ k l. free-same w w' k (λ j a b. t.high j (omega arith) (omega arith)) (part-crun w' g (get_or w 3 0) (omega arith) cstore (const (get_or w 3 0) g.ccount) k l) (g.cfree k l));
  }

  -- scopes begin where they began
  pub first-same : (k : ℕ) → first w' k ≡ first w k
  first-same k = let d = count 2 (omega arith) in ⊎_elim
      (λ (l : k < get_or w 2 0). out.first-in w' k (omega arith) ∙ head k 1 (omega (arith, g.depth)) (omega arith) ∙ sym (out.first-in w k l))
      (λ (l : get_or w 2 0 ≤ k). out.first-end w' k (omega arith) ∙ count 1 (omega arith) ∙ sym (out.first-end w k l))
      (below_or_not k (get_or w 2 0))

  cfirst-same : (k : ℕ) → cfirst w' k ≡ cfirst w k
  cfirst-same k = let d = count 2 (omega arith) in ⊎_elim
      (λ (l : k < get_or w 2 0). out.cfirst-in w' k (omega arith) ∙ head k 2 (omega (arith, g.depth)) (omega arith) ∙ sym (out.cfirst-in w k l))
      (λ (l : get_or w 2 0 ≤ k). out.cfirst-end w' k (omega arith) ∙ count 3 (omega arith) ∙ sym (out.cfirst-end w k l))
      (below_or_not k (get_or w 2 0))

  -- scope k, with its barriers and unresolved uses
  abbrev with : (ℕ → Bool) → (ℕ → Bool) → Scope → Scope
  with b u s = record { kind = s.kind; inline_barriers = b; bindings = s.bindings; unresolved_usages = u; constants = s.constants }

  module _ (k : ℕ) (h : k < get_or w 2 0) where
    bindings-same : tab (first w (suc k)) (λ j. bind_at w' j) ≡ tab (first w (suc k)) (λ j. bind_at w j)
    bindings-same = tab-ext (first w (suc k)) (λ j. bind_at w' j) (λ j. bind_at w j) (λ j l. bind-at j (omega (arith, out.first-le w g (suc k) (omega arith))))

    constants-same : tab (cfirst w (suc k)) (λ j. const_at w' j) ≡ tab (cfirst w (suc k)) (λ j. const_at w j)
    constants-same = let l = out.first-le w g (suc k) (omega arith) in part-consts w' g (cfirst w (suc k)) l.1 cstore (const (cfirst w (suc k)) (omega (arith, g.ccount)))

    scope-with : scope_at w' k ≡ with (scope_at w' k).inline_barriers (scope_at w' k).unresolved_usages (scope_at w k)
    unfolding scope_at
    scope-with =
        let d = g.depth in
        scope-eq (ap scope_kind_of (head-kind k (omega arith)))
        (rw (first-same (suc k), head k 1 (omega arith) (omega arith), bindings-same) refl)
        (rw (cfirst-same (suc k), head k 2 (omega arith) (omega arith), constants-same) refl)

    pub scope-to : (b u : ℕ → Bool) → ((m : ℕ) → (scope_at w' k).inline_barriers m ≡ b m) → ((m : ℕ) → (scope_at w' k).unresolved_usages m ≡ u m) → scope_at w' k ≡ with b u (scope_at w k)
    scope-to b u p q = scope-with ∙ (λ t. with (λ m. p m t) (λ m. q m t) (scope_at w k))

  -- all scopes
  pub below_by : (f : Scope → Scope) (k : ℕ) → k ≤ get_or w 2 0 → ((j : ℕ) → j < k → scope_at w' j ≡ f (scope_at w j)) → below w' k ≡ map f (below w k)
  below_by f zero h e = out.below_none w' ∙ sym (ap (map f) (out.below_none w))
  below_by f (suc k) h e =
      let d = count 2 (omega arith) in
      out.below_next w' touched-good k (omega arith) ∙ rw (e k (omega arith), below_by f k (omega arith) (λ j l. e j (omega arith))) refl ∙ sym (ap (map f) (out.below_next w g k (omega arith)))

  pub below-same : (k : ℕ) → k ≤ get_or w 2 0 → ((j : ℕ) → j < k → scope_at w' j ≡ scope_at w j) → below w' k ≡ below w k
  below-same zero h e = out.below_none w' ∙ sym (out.below_none w)
  below-same (suc k) h e =
      let d = count 2 (omega arith) in
      out.below_next w' touched-good k (omega arith) ∙ rw (e k (omega arith), below-same k (omega arith) (λ j l. e j (omega arith))) refl ∙ sym (out.below_next w g k (omega arith))

  pub touched-becomes : (st : Stack) → below w' (get_or w 2 0) ≡ st → Becomes w w' st
  touched-becomes st e = record {
    good = touched-good;
    is = out.below_all w' ∙ ap (below w') (count 2 (omega arith)) ∙ e;
    tree = same-tree;
    others = record { low = λ j a b. t.low j (omega arith) (λ i n q. omega arith); high = λ j a b. t.high j (omega arith) b };
    rest = t.rest;
  }

  -- the barriers of a scope are its words
  pub bars-same : (k : ℕ) → k < get_or w 2 0 → get_or w' (7184 + k * 4 + 3) 0 ≡ get_or w (7184 + k * 4 + 3) 0 → ((i : ℕ) → first w k ≤ i → i < first w (suc k) → get_or w' (4112 + i * 10 + 9) 0 ≡ get_or w (4112 + i * 10 + 9) 0)
      → (m : ℕ) → (scope_at w' k).inline_barriers m ≡ (scope_at w k).inline_barriers m
  bars-same k h z f zero = facts.bar-first w' k ∙ ap yes z ∙ sym (facts.bar-first w k)
  bars-same k h z f (suc j) =
      let a : get_or w' (7184 + k * 4 + 1) 0 ≡ get_or w (7184 + k * 4 + 1) 0 = head k 1 (omega (arith, g.depth)) (omega arith) in
      let e : first w' (suc k) ≡ first w (suc k) = first-same (suc k) in
      let q : suc j - 1 ≡ j = omega arith in
      let at : ℕ = get_or w (7184 + k * 4 + 1) 0 + (suc j - 1) in
      ⊎_elim
      (λ (l : at < first w (suc k)). facts.bar-in w' k (suc j) (λ n. omega arith) (omega arith)
      ∙ rw a (ap yes (f at (omega (arith, out.first-in w k h)) l)) ∙ sym (facts.bar-in w k (suc j) (λ n. omega arith) l))
      (λ (l : first w (suc k) ≤ at). facts.bar-out w' k (suc j) (λ n. omega arith) (omega arith) ∙ sym (facts.bar-out w k (suc j) (λ n. omega arith) l))
      (below_or_not at (first w (suc k)))

  -- and its unresolved uses
  pub unresolved-same : (k : ℕ) → Agree (7312 + k * 8) (7312 + k * 8 + 8) w w' → (m : ℕ) → (scope_at w' k).unresolved_usages m ≡ (scope_at w k).unresolved_usages m
  unfolding scope_at unres_at
  unresolved-same k a m = ap (λ (l : List ℕ). yes (get_or l m 0)) (tab-ext 256 (λ j. flag_at w' (7312 + k * 8) j) (λ j. flag_at w (7312 + k * 8) j) (λ j l. flag_same w w' (7312 + k * 8) j l (λ i h. a (7312 + k * 8 + i) (omega arith) (omega arith))))

-- an unresolved use is stored
module _ (w w' : List ℕ) (g : Good w) (x : ℕ) (small : x < 256) (k : ℕ) (z : suc k ≡ get_or w 2 0) (f : Flagged w w' (7312 + k * 8) x) where
  abbrev p : ℕ
  p = 7312 + k * 8 + x / 32

  keeps : (j : ℕ) → (j ≡ p → ⊥) → get_or w' j 0 ≡ get_or w j 0
  keeps j d = f.other j d

  touched : Touched w w'
  unfolding beyond
  touched = let l = g.depth in record {
    size = f.size;
    low = λ j a b. keeps j (λ e. omega arith);
    heads = λ j a b c. keeps j (λ e. omega arith);
    high = λ j a b. keeps j (λ e. omega arith);
    rest = f.rest 16384 (omega arith);
  }

  same-bars : (j : ℕ) → j < get_or w 2 0 → (m : ℕ) → (scope_at w' j).inline_barriers m ≡ (scope_at w j).inline_barriers m
  same-bars j h = let d = g.depth in let n = g.count in bars-same g touched j h (keeps (7184 + j * 4 + 3) (λ e. omega arith)) (λ i a b. keeps (4112 + i * 10 + 9) (λ e. omega (arith, out.first-le w g (suc j) (omega arith))))

  outer_same : (j : ℕ) → j < k → scope_at w' j ≡ scope_at w j
  outer_same j l = scope-to g touched j (omega arith) (scope_at w j).inline_barriers (scope_at w j).unresolved_usages (same-bars j (omega arith))
      (unresolved-same g touched j (λ i a b. keeps i (λ e. omega arith)))

  used : (m : ℕ) → (scope_at w' k).unresolved_usages m ≡ (eqb x m || (scope_at w k).unresolved_usages m)
  unfolding scope_at unres_at
  used m = ⊎_elim
      (λ (l : m < 256). rw (get_d-tab 256 (λ j. flag_at w' (7312 + k * 8) j) m 0 l, get_d-tab 256 (λ j. flag_at w (7312 + k * 8) j) m 0 l) (f.here m l))
      (λ (l : 256 ≤ m). rw (get_d-tab-out 256 (λ j. flag_at w' (7312 + k * 8) j) m 0 l, get_d-tab-out 256 (λ j. flag_at w (7312 + k * 8) j) m 0 l, ne_eqb x m (λ e. omega arith)) refl)
      (below_or_not m 256)

  pub unresolved : Becomes w w' (add_unresolved x (stack w))
  unresolved =
      let top : below w' (get_or w 2 0) ≡ scope_at w' k ∷ below w' k = ap (below w') (sym z) ∙ out.below_next w' (touched-good g touched) k (omega (arith, keeps 2 (λ e. omega arith))) in
      touched-becomes g touched (add_unresolved x (stack w))
      (top ∙ rw (scope-to g touched k (omega arith) (scope_at w k).inline_barriers (λ m. eqb x m || (scope_at w k).unresolved_usages m) (same-bars k (omega arith)) used, below-same g touched k (omega arith) outer_same) refl
      ∙ sym (ap (add_unresolved x) (out.current w k g z)))

-- a barrier by the words, where scope k begins at a and ends at e
module _ (u : List ℕ) (k j a e : ℕ) (begin : get_or u (7184 + k * 4 + 1) 0 ≡ a) (end : first u (suc k) ≡ e) where
  step : suc j - 1 ≡ j
  step = omega arith

  bar-within : a + j < e → (scope_at u k).inline_barriers (suc j) ≡ yes (get_or u (4112 + (a + j) * 10 + 9) 0)
  bar-within l = facts.bar-in u k (suc j) (λ z. omega arith) (omega arith) ∙ rw (begin, step) refl

  bar-beyond : e ≤ a + j → (scope_at u k).inline_barriers (suc j) ≡ false
  bar-beyond l = facts.bar-out u k (suc j) (λ z. omega arith) (omega arith)

-- a barrier is stored behind the last binding of scope k
module _ (w : List ℕ) (g : Good w) (k : ℕ) (h : k < get_or w 2 0) where
  -- scopes do not overlap
  apart_from : (m j : ℕ) → j + m ≤ get_or w 2 0 → first w j ≤ first w (j + m)
  apart_from zero j l = let e : j + 0 ≡ j = omega arith in rw e (omega arith)
  apart_from (suc m) j l =
      let e : j + suc m ≡ suc (j + m) = omega arith in
      rw e (omega (arith, apart_from m j (omega arith), out.order w g (j + m) (omega arith)))

  apart : (i j : ℕ) → i ≤ j → j ≤ get_or w 2 0 → first w i ≤ first w j
  apart i j l m = let e : i + (j - i) ≡ j = omega arith in rw e at (apart_from (j - i) i (omega arith))

  pub size_is : length (scope_at w k).bindings ≡ first w (suc k) - first w k
  unfolding scope_at
  size_is = length-drop (get_or w (7184 + k * 4 + 1) 0) (tab (first w (suc k)) (λ j. bind_at w j)) ∙ rw (length-tab (first w (suc k)) (λ j. bind_at w j), out.first-in w k h) refl

  abbrev n : ℕ
  n = length (scope_at w k).bindings

  -- into a word that is a barrier of scope k
  module _ (p : ℕ) (mine : (p ≡ 7184 + k * 4 + 3) ⊎ ((first w k < first w (suc k)) × (p ≡ 4112 + (first w (suc k) - 1) * 10 + 9))) where
    abbrev v : List ℕ
    v = set w p 1

    keep : (j : ℕ) → (j ≡ p → ⊥) → get_or v j 0 ≡ get_or w j 0
    keep j d = get_or-set_other w p j 1 0 d

    low_end : (first w (suc k) ≤ 256) × (k < 32)
    low_end = (omega (arith, out.first-le w g (suc k) (omega arith), g.count), omega (arith, g.depth))

    bar-touched : Touched w v
    unfolding beyond
    bar-touched =
        let l = low_end in
        ⊎_elim
        (λ (e : p ≡ 7184 + k * 4 + 3). record {
          size = simp length-set;
          low = λ j a b. keep j (λ q. omega arith);
          heads = λ j a b c. keep j (λ q. c k l.1 (q ∙ e));
          high = λ j a b. keep j (λ q. omega arith);
          rest = drop-set-lt 16384 w p 1 (omega arith);
        })
        (λ (e : (first w k < first w (suc k)) × (p ≡ 4112 + (first w (suc k) - 1) * 10 + 9)). record {
          size = simp length-set;
          low = λ j a b. keep j (λ q. b (first w (suc k) - 1) (omega arith) (q ∙ e.1));
          heads = λ j a b c. keep j (λ q. omega arith);
          high = λ j a b. keep j (λ q. omega arith);
          rest = drop-set-lt 16384 w p 1 (omega arith);
        })
        mine

    bar-other : (j : ℕ) → j < get_or w 2 0 → (j ≡ k → ⊥) → (m : ℕ) → (scope_at v j).inline_barriers m ≡ (scope_at w j).inline_barriers m
    bar-other j l d =
        let o = low_end in
        let y = out.first-le w g (suc j) (omega arith) in
        ⊎_elim
        (λ (e : p ≡ 7184 + k * 4 + 3). bars-same g bar-touched j l (keep (7184 + j * 4 + 3) (λ q. d (omega arith))) (λ i a b. keep (4112 + i * 10 + 9) (λ q. omega (arith, g.count))))
        (λ (e : (first w k < first w (suc k)) × (p ≡ 4112 + (first w (suc k) - 1) * 10 + 9)).
        let f : (i : ℕ) → first w j ≤ i → i < first w (suc j) → i ≡ first w (suc k) - 1 → ⊥ = λ i a b q. ⊎_elim
        (λ (s : j < k). omega (arith, apart (suc j) k (omega arith) (omega arith)))
        (λ (s : k ≤ j). omega (arith, apart (suc k) j (omega arith) (omega arith), d)) (below_or_not j k) in
        bars-same g bar-touched j l (keep (7184 + j * 4 + 3) (λ q. omega arith)) (λ i a b. keep (4112 + i * 10 + 9) (λ q. f i a b (omega arith))))
        mine

    bar-unresolved : (j : ℕ) → j < get_or w 2 0 → (m : ℕ) → (scope_at v j).unresolved_usages m ≡ (scope_at w j).unresolved_usages m
    bar-unresolved j l = let o = low_end in unresolved-same g bar-touched j (λ i a b. keep i (λ q. ⊎_elim (λ (e : p ≡ 7184 + k * 4 + 3). omega arith) (λ (e : (first w k < first w (suc k)) × (p ≡ 4112 + (first w (suc k) - 1) * 10 + 9)). omega (arith, e.1)) mine))

    pub bar-stored : ((m : ℕ) → (scope_at v k).inline_barriers m ≡ (eqb n m || (scope_at w k).inline_barriers m)) → BarStored w v k
    bar-stored e = record { touched = bar-touched; here = e; other = bar-other; unresolved = bar-unresolved }

  -- the barriers after the store: behind binding j of the scope, and past its end
  module _ (p : ℕ) (mine : (p ≡ 7184 + k * 4 + 3) ⊎ ((first w k < first w (suc k)) × (p ≡ 4112 + (first w (suc k) - 1) * 10 + 9))) where
    begins : get_or (set w p 1) (7184 + k * 4 + 1) 0 ≡ first w k
    begins = let l = low_end p mine in keep p mine (7184 + k * 4 + 1) (λ q. ⊎_elim (λ (e : p ≡ 7184 + k * 4 + 3). omega arith) (λ (e : (first w k < first w (suc k)) × (p ≡ 4112 + (first w (suc k) - 1) * 10 + 9)). omega arith) mine) ∙ sym (out.first-in w k h)

    ends : first (set w p 1) (suc k) ≡ first w (suc k)
    ends = first-same g (bar-touched p mine) (suc k)

    after : (j : ℕ) → first w k + j < first w (suc k) → (scope_at (set w p 1) k).inline_barriers (suc j) ≡ yes (get_or (set w p 1) (4112 + (first w k + j) * 10 + 9) 0)
    after j l = bar-within (set w p 1) k j (first w k) (first w (suc k)) begins ends l

    past : (j : ℕ) → first w (suc k) ≤ first w k + j → (scope_at (set w p 1) k).inline_barriers (suc j) ≡ (eqb n (suc j) || (scope_at w k).inline_barriers (suc j))
    past j l = bar-beyond (set w p 1) k j (first w k) (first w (suc k)) begins ends l
        ∙ sym (rw (ne_eqb n (suc j) (λ e. omega (arith, size_is, out.order w g k h)), bar-beyond w k j (first w k) (first w (suc k)) (sym (out.first-in w k h)) refl l) refl)

  -- no binding: the barrier is before the first
  pub bar-empty : first w (suc k) ≤ first w k → BarStored w (set w (7184 + k * 4 + 3) 1) k
  bar-empty l = bar-stored (7184 + k * 4 + 3) (inl refl) here
    where
      here : (m : ℕ) → (scope_at (set w (7184 + k * 4 + 3) 1) k).inline_barriers m ≡ (eqb n m || (scope_at w k).inline_barriers m)
      here zero = facts.bar-first (set w (7184 + k * 4 + 3) 1) k ∙ ap yes (get_or-set_same w (7184 + k * 4 + 3) 1 0 (omega (arith, g.long, g.depth))) ∙ sym (rw (eq-eqb n 0 (omega (arith, size_is))) refl)
      here (suc j) = past (7184 + k * 4 + 3) (inl refl) j (omega arith)

  pub bar-last : first w k < first w (suc k) → BarStored w (set w (4112 + (first w (suc k) - 1) * 10 + 9) 1) k
  bar-last l = bar-stored (4112 + (first w (suc k) - 1) * 10 + 9) (inr (l, refl)) here
    where
      small : first w (suc k) ≤ 256
      small = (low_end (4112 + (first w (suc k) - 1) * 10 + 9) (inr (l, refl))).0

      inside : (j : ℕ) → first w k + j < first w (suc k) → (scope_at (set w (4112 + (first w (suc k) - 1) * 10 + 9) 1) k).inline_barriers (suc j) ≡ (eqb n (suc j) || (scope_at w k).inline_barriers (suc j))
      inside j m = after (4112 + (first w (suc k) - 1) * 10 + 9) (inr (l, refl)) j m ∙ ⊎_elim
          (λ (e : n ≡ suc j).
          let q : first w k + j ≡ first w (suc k) - 1 = omega (arith, size_is) in
          rw (q, eq-eqb n (suc j) e) (ap yes (get_or-set_same w (4112 + (first w (suc k) - 1) * 10 + 9) 1 0 (omega (arith, g.long, small)))))
          (λ (d : n ≡ suc j → ⊥).
          rw (ne_eqb n (suc j) d) (ap yes (keep (4112 + (first w (suc k) - 1) * 10 + 9) (inr (l, refl)) (4112 + (first w k + j) * 10 + 9) (λ q. d (omega (arith, size_is)))) ∙ sym (bar-within w k j (first w k) (first w (suc k)) (sym (out.first-in w k h)) refl m)))
          (same_or_not n (suc j))

      here : (m : ℕ) → (scope_at (set w (4112 + (first w (suc k) - 1) * 10 + 9) 1) k).inline_barriers m ≡ (eqb n m || (scope_at w k).inline_barriers m)
      here zero = facts.bar-first (set w (4112 + (first w (suc k) - 1) * 10 + 9) 1) k ∙ ap yes (keep (4112 + (first w (suc k) - 1) * 10 + 9) (inr (l, refl)) (7184 + k * 4 + 3) (λ q. omega (arith, small)))
          ∙ sym (rw (ne_eqb n 0 (λ e. omega (arith, size_is))) (facts.bar-first w k))
      here (suc j) = ⊎_elim (λ (m : first w k + j < first w (suc k)). inside j m) (λ (m : first w (suc k) ≤ first w k + j). past (4112 + (first w (suc k) - 1) * 10 + 9) (inr (l, refl)) j m) (below_or_not (first w k + j) (first w (suc k)))

-- the first k scopes have their new barriers
pub record Barred (w₀ w : List ℕ) (k : ℕ) : Type 0 where
  pub touched : Touched w₀ w
  pub done : (j : ℕ) → j < k → (m : ℕ) → (scope_at w j).inline_barriers m ≡ (eqb (length (scope_at w₀ j).bindings) m || (scope_at w₀ j).inline_barriers m)
  pub left : (j : ℕ) → k ≤ j → j < get_or w₀ 2 0 → (m : ℕ) → (scope_at w j).inline_barriers m ≡ (scope_at w₀ j).inline_barriers m
  pub unresolved : (j : ℕ) → j < get_or w₀ 2 0 → (m : ℕ) → (scope_at w j).unresolved_usages m ≡ (scope_at w₀ j).unresolved_usages m

pub barred-none : (w : List ℕ) → Barred w w 0
barred-none w = record { touched = touched-self w; done = λ j l. absurd (omega arith); left = λ j a b m. refl; unresolved = λ j a m. refl }

module _ {w₀ w w' : List ℕ} {k : ℕ} (g : Good w₀) (s : Barred w₀ w k) (h : k < get_or w₀ 2 0) (t : BarStored w w' k) where
  depth_same : get_or w 2 0 ≡ get_or w₀ 2 0
  depth_same = s.touched.low 2 (omega arith) (λ i n e. omega arith)

  bindings-kept : (scope_at w k).bindings ≡ (scope_at w₀ k).bindings
  bindings-kept = ap (λ (s : Scope). s.bindings) (scope-to g s.touched k h (scope_at w k).inline_barriers (scope_at w k).unresolved_usages (λ m. refl) (λ m. refl))

  pub barred-more : Barred w₀ w' (k + 1)
  barred-more =
      let d = depth_same in
      record {
        touched = touched-then s.touched t.touched;
        done = λ j l m. ⊎_elim
            (λ (e : j ≡ k). rw e (t.here m ∙ rw (bindings-kept, s.left k (omega arith) h m) refl))
            (λ (q : j < k). t.other j (omega arith) (λ e. omega arith) m ∙ s.done j q m)
            (eq-or-lt_of_le (omega arith));
        left = λ j a b m. t.other j (omega arith) (λ e. omega arith) m ∙ s.left j (omega arith) b m;
        unresolved = λ j a m. t.unresolved j (omega arith) m ∙ s.unresolved j a m;
      }

pub barred-all : {w₀ w : List ℕ} → Good w₀ → Barred w₀ w (get_or w₀ 2 0) → Becomes w₀ w (store_inline_barrier (stack w₀))
barred-all {w₀} {w} g s =
    let f : Scope → Scope = λ s. record { kind = s.kind; inline_barriers = λ (j : ℕ). eqb (length s.bindings) j || s.inline_barriers j; bindings = s.bindings; unresolved_usages = s.unresolved_usages; constants = s.constants } in
    touched-becomes g s.touched (store_inline_barrier (stack w₀))
    (below_by g s.touched f (get_or w₀ 2 0) (omega arith) (λ j l. scope-to g s.touched j l (λ m. eqb (length (scope_at w₀ j).bindings) m || (scope_at w₀ j).inline_barriers m) (scope_at w₀ j).unresolved_usages (s.done j l) (s.unresolved j l))
    ∙ sym (ap (map f) (out.below_all w₀)))

-- Steps one after the other, and a binding overwritten. Assumes nothing.
use mathlib.Core.Path.{◌≡◌, refl, sym, ap, subst, ◌∙◌}
use mathlib.Core.List.{List, [], ◌∷◌}
use mathlib.Core.Bool.{Bool, true, false, ◌||◌}
use mathlib.Core.Option.{Option, none}
use mathlib.Core.Logic.{◌⊎◌, inl, inr, ⊎_elim}
use Prim.Native.Nat.{ℕ, suc, ◌+◌, ◌-◌, ◌*◌, ◌≤◌, ◌<◌}
use native.Mathlib.Omega.{arith}
use lib.ListN.{length, get_or, set, length-set}
use lib.Dec.{ltb}
use borrow.Author.Tests.{le-ltb, ltb-false}
use Rattle.def_tree.specs.Tree.{Tree, Core, no_core}
use Rattle.def_pass.specs.Tree.{count_o}
use Rattle.def_pass.specs.Scope.{VarInfo, Stack, change, with_value, recorded_nodes, live}
use Rattle.words.specs.Tab.{tab, tab-ext, tab-zero, length-tab, get_d-tab, set-tab, same_or_not, sum-part}
use Rattle.words.specs.Layout.{yes, run, core_from, node_of, tree}
use Rattle.words.proofs.Nodes.{run_length, tree-length, tree-at, beyond-same}
use Rattle.words_scopes.specs.State.{Good, HasBinding, Past, Others, Becomes, split, heads, flags, binds, consts, stack, bind_at, len_at, off, coff, run_at, value_of, run_of, var_type_of, alias_at, place}
use Rattle.words_scopes.proofs.Split as laws
use Rattle.words_scopes.proofs.Words.{Kept, kept-heads, kept-flags, kept-consts, kept-tree, kept-good, bind-eq, words-bind}
use Rattle.words.specs.declared.Run.{Run}
use Rattle.words.specs.declared.layout.Table.{Table}
use Rattle.scope_values.specs.Steps.{Listed, Refilled, len_in, run_in, over, put_at, Grown, Offered, run_value}
use Rattle.scope_values.proofs.Count.{depth_is, count-whole, nodes_b, total-set, recorded-split, live-split, recorded-is, live-is, total-binds, total-consts, length-binds, length-consts, fits-binds, fits-consts, nodes-bind}
use Rattle.scope_values.proofs.Store as store
use Rattle.scope_values.proofs.Store.{refilled-sum}
use Rattle.refusal.specs.declared.Refusal.{Refusal}
use Rattle.std.proofs.Common.{Result, Ok, Err, OnErr}

pub others-then : {u v w : List ℕ} → Others u v → Others v w → Others u w
others-then a b = record { low = λ j l h. b.low j l h ∙ a.low j l h; high = λ j l h. b.high j l h ∙ a.high j l h }

pub becomes-then : {u v w : List ℕ} {s t : Stack} → Becomes u v s → Becomes v w t → Becomes u w t
becomes-then a b = record { good = b.good; is = b.is; tree = b.tree ∙ a.tree; others = others-then a.others b.others; rest = b.rest ∙ a.rest }

pub becomes-next : {u v w : List ℕ} {s : Stack} (f : Stack → Stack) → Becomes u v s → Becomes v w (f (stack v)) → Becomes u w (f s)
becomes-next {u} {v} {w} f a b = becomes-then a (subst (λ (t : Stack). Becomes v w (f t)) a.is b)

pub becomes-self : (w : List ℕ) (st : Stack) → Good w → stack w ≡ st → Becomes w w st
becomes-self w st g e = record { good = g; is = e; tree = refl; others = record { low = λ j a b. refl; high = λ j a b. refl }; rest = refl }

pub listed_then : {u v w : List ℕ} {bs bs' : List VarInfo} {cs cs' : List (ℕ × Option Tree)} → Listed u v bs cs → Listed v w bs' cs' → Listed u w bs' cs'
listed_then a b = record {
  good = b.good;
  heads = b.heads ∙ a.heads;
  flags = b.flags ∙ a.flags;
  binds = b.binds;
  consts = b.consts;
  tree = b.tree ∙ a.tree;
  others = others-then a.others b.others;
  rest = b.rest ∙ a.rest;
}

pub listed-becomes : {w w' : List ℕ} {bs : List VarInfo} {cs : List (ℕ × Option Tree)} (st : Stack) → st ≡ split (heads w) (flags w) bs cs → Listed w w' bs cs → Becomes w w' st
unfolding stack
listed-becomes st e l = record { good = l.good; is = rw (l.heads, l.flags, l.binds, l.consts, e) refl; tree = l.tree; others = l.others; rest = l.rest }

-- only bindings' own words and their values changed
pub kept-listed : {w w' : List ℕ} {bs : List VarInfo} → Good w → Kept w w' → Good w' → binds w' ≡ bs → Listed w w' bs (consts w)
kept-listed g t good e = record {
  good = good;
  heads = kept-heads g t;
  flags = kept-flags g t;
  binds = e;
  consts = kept-consts g t;
  tree = kept-tree g t;
  others = record { low = λ j a b. t.counts j (omega arith) b; high = t.high };
  rest = t.rest;
}

module _ (w : List ℕ) (k : ℕ) (h : k < get_or w 1 0) where
  pub bind-there : (d : VarInfo) → get_or (binds w) k d ≡ bind_at w k
  unfolding binds
  bind-there d = get_d-tab (get_or w 1 0) (λ j. bind_at w j) k d h

  pub change-at : (x : ℕ) (f : VarInfo → VarInfo) → place x (heads w) (binds w) ≡ suc k → change x f (stack w) ≡ put_at w k (f (bind_at w k))
  unfolding stack binds
  change-at x f e =
      let b : ℕ → VarInfo = λ j. bind_at w j in
      let n : ℕ = get_or w 1 0 in
      laws.change-place x f (heads w) (flags w) (tab n b) (consts w) ∙ rw e (ap (λ (l : List VarInfo). split (heads w) (flags w) l (consts w))
      (laws.touch-set k f (tab n b) laws.no_bind (rw length-tab h) ∙ ap (λ (c : VarInfo). set (tab n b) k (f c)) (get_d-tab n b k laws.no_bind h)))

  pub set-binds : (w' : List ℕ) (c : VarInfo) → get_or w' 1 0 ≡ get_or w 1 0 → bind_at w' k ≡ c → ((j : ℕ) → j < get_or w 1 0 → (j ≡ k → ⊥) → bind_at w' j ≡ bind_at w j) → binds w' ≡ set (binds w) k c
  unfolding binds
  set-binds w' c n this other = rw n (set-tab (get_or w 1 0) (λ j. bind_at w j) (λ j. bind_at w' j) k c h this other)

  module _ (g : Good w) (c : VarInfo) where
    pub recorded-put : recorded_nodes (put_at w k c) ≡ recorded_nodes (stack w) - len_at w k + count_o c.value
    recorded-put =
        let len : length (set (binds w) k c) ≡ length (binds w) = simp length-set in
        let p = sum-part (λ j. len_at w j) k (get_or w 1 0) h in
        let t = total-set nodes_b (binds w) k c laws.no_bind (rw (length-binds w g) h) in
        let e : nodes_b (get_or (binds w) k laws.no_bind) ≡ len_at w k = ap nodes_b (bind-there laws.no_bind) ∙ nodes-bind w g k h in
        omega (arith, recorded-split (heads w) (flags w) (set (binds w) k c) (consts w) (rw len (fits-binds w g)) (fits-consts w g), recorded-is w g, total-binds w g, total-consts w g, t, e)

    pub live-put : live (put_at w k c) ≡ live (stack w) + 0
    live-put =
        let len : length (set (binds w) k c) ≡ length (binds w) = simp length-set in
        omega (arith, live-split (heads w) (flags w) (set (binds w) k c) (consts w) (rw len (fits-binds w g)) (fits-consts w g), live-is w g, len, length-binds w g, length-consts w g)

    pub over-put : over (put_at w k c) ≡ (ltb 512 (recorded_nodes (stack w) - len_at w k + count_o c.value) || ltb 256 (live (stack w) + 0))
    over-put = rw (recorded-put, live-put) refl

-- neither test holds
pub neither : (a b : Bool) → (a || b) ≡ false → (a ≡ false) × (b ≡ false)
neither true b e = let z : ◌≡◌ {A = ℕ} 0 1 = cc in absurd (omega arith)
neither false b e = (refl, e)

-- what a step that is not refused leaves room for
pub room : (r l : ℕ) → (ltb 512 r || ltb 256 l) ≡ false → (r ≤ 512) × (l ≤ 256)
room r l e = let n = neither (ltb 512 r) (ltb 256 l) e in (ltb-false 512 r n.0, ltb-false 256 l n.1)

-- the nodes of a run of the tree that is whole
pub count-tree : (w : List ℕ) (i m : ℕ) → run_of (value_of (run w 16 i m)) ≡ run w 16 i m → count_o (value_of (run w 16 i m)) ≡ m
count-tree w i m q = count-whole (run w 16 i m) q ∙ run_length w 16 i m

-- a run of the tree in place of the value of binding k: what `room_for` and `set_run` ask, and what `room_for` tells
module _ (w : List ℕ) (g : Good w) (k : ℕ) (h : k < get_or w 1 0) (r : Run) (o : Offered w r) where
  pub room-asks : Good w × (len_at w k ≤ recorded_nodes (stack w)) × (r.len ≤ 1024) × (0 ≤ 1)
  room-asks = let part = sum-part (λ j. len_at w j) k (get_or w 1 0) h in (g, omega (arith, recorded-is w g), omega (arith, g.nodes, o.inside), omega arith)

  pub set-asks : (p : Bool) → p ≡ (ltb 512 (recorded_nodes (stack w) - len_at w k + r.len) || ltb 256 (live (stack w) + 0)) → p ≡ false
      → HasBinding w k × Offered w r × (r.len + (off w (get_or w 1 0) + coff w (get_or w 3 0)) ≤ 512 + len_at w k)
  set-asks p is e =
      let part = room-asks.1 in
      let l = room (recorded_nodes (stack w) - len_at w k + r.len) (live (stack w) + 0) (sym is ∙ e) in
      ((g, h), o, omega (arith, l.0, recorded-is w g))

  pub over-run : over (put_at w k (with_value (run_value w r) (bind_at w k))) ≡ (ltb 512 (recorded_nodes (stack w) - len_at w k + r.len) || ltb 256 (live (stack w) + 0))
  over-run = over-put w k h g (with_value (run_value w r) (bind_at w k)) ∙ ap (λ (n : ℕ). ltb 512 (recorded_nodes (stack w) - len_at w k + n) || ltb 256 (live (stack w) + 0)) (count-tree w r.at r.len o.one)

  -- it is the innermost of x
  module _ (x : ℕ) (e : place x (heads w) (binds w) ≡ suc k) where
    pub over-value : over (change x (with_value (run_value w r)) (stack w)) ≡ (ltb 512 (recorded_nodes (stack w) - len_at w k + r.len) || ltb 256 (live (stack w) + 0))
    over-value = ap over (change-at w k h x (with_value (run_value w r)) e) ∙ over-run

    pub value-becomes : {w' : List ℕ} → Listed w w' (set (binds w) k (with_value (run_value w r) (bind_at w k))) (consts w) → Becomes w w' (change x (with_value (run_value w r)) (stack w))
    value-becomes = listed-becomes (change x (with_value (run_value w r)) (stack w)) (change-at w k h x (with_value (run_value w r)) e)

-- good words are within row 9: a step to them is not refused
pub good-under : (w : List ℕ) → Good w → over (stack w) ≡ false
good-under w g = rw (le-ltb 512 (recorded_nodes (stack w)) (omega (arith, recorded-is w g, g.recorded)), le-ltb 256 (live (stack w)) (omega (arith, live-is w g, g.live))) refl

pub done-under : {w w' : List ℕ} {st : Stack} → Becomes w w' st → Grown w w' st (Ok tt)
done-under {w} {w'} b = (b, sym (ap over b.is) ∙ good-under w' b.good)

-- refused, a step leaves the words as they were
pub grown-kept : (w w' : List ℕ) (st : Stack) (r : Result Unit Refusal) → Grown w w' st r → OnErr r (w' ≡ w)
grown-kept w w' st (Ok x) g = tt
grown-kept w w' st (Err e) g = g.2

-- the bindings' values, as a store
abbrev pub lengths : Table
lengths = record { base = 4120; stride = 10 }

pub len-bind : (w : List ℕ) (k : ℕ) → len_in w lengths k ≡ len_at w k
len-bind w k = ap (λ (j : ℕ). get_or w j 0) (omega arith)

run-bind : (w : List ℕ) (k : ℕ) → run_in w 2064 lengths k ≡ run_at w k
run-bind w k = rw (words-bind w k, len-bind w k) refl

-- the value of binding k becomes a run of the tree's nodes
module _ {w w' : List ℕ} (g : Good w) (k : ℕ) (h : k < get_or w 1 0) (r : Run) (o : Offered w r) (hm : r.len + (off w (get_or w 1 0) + coff w (get_or w 3 0)) ≤ 512 + len_at w k) (s : Refilled w w' 2064 lengths k (get_or w 1 0) r) where
  out : (j : ℕ) → (j < 2064) ⊎ (3088 ≤ j) → (j ≡ 4112 + k * 10 + 8 → ⊥) → get_or w' j 0 ≡ get_or w j 0
  out j l d = s.out j l (λ e. d (omega arith))

  aside : (j f : ℕ) → f < 10 → (f ≡ 8 → ⊥) → get_or w' (4112 + j * 10 + f) 0 ≡ get_or w (4112 + j * 10 + f) 0
  aside j f l d = out (4112 + j * 10 + f) (inr (omega arith)) (λ e. omega arith)

  value-kept : Kept w w'
  value-kept = let l = g.count in record {
    size = s.size;
    counts = λ j a b. out j (inl (omega arith)) (λ e. omega arith);
    nodes = λ j a b. out j (inl (omega arith)) (λ e. omega arith);
    cstore = λ j a b. out j (inr (omega arith)) (λ e. omega arith);
    tail = λ j a b. out j (inr (omega arith)) (λ e. omega arith);
    high = λ j a b. out j (inr (omega arith)) (λ e. omega arith);
    flag = λ j a. aside j 9 (omega arith) (λ e. omega arith);
    rest = beyond-same w w' s.size (λ j a. out j (inr (omega arith)) (λ e. omega arith));
  }

  run-this : run_at w' k ≡ run w 16 r.at r.len
  run-this = sym (run-bind w' k) ∙ s.this

  run-other : (j : ℕ) → j < get_or w 1 0 → (j ≡ k → ⊥) → run_at w' j ≡ run_at w j
  run-other j l d = sym (run-bind w' j) ∙ s.other j l d ∙ run-bind w j

  named : (j : ℕ) → get_or w' (4112 + j * 10) 0 ≡ get_or w (4112 + j * 10) 0
  named j = out (4112 + j * 10) (inr (omega arith)) (λ e. omega arith)

  bind-with : (j : ℕ) (t : List Core) → run_at w' j ≡ t → bind_at w' j ≡ with_value (value_of t) (bind_at w j)
  bind-with j t e =
      bind-eq (named j) (ap var_type_of (aside j 1 (omega arith) (λ e. omega arith))) (ap alias_at (aside j 2 (omega arith) (λ e. omega arith))) (aside j 3 (omega arith) (λ e. omega arith))
      (ap yes (aside j 4 (omega arith) (λ e. omega arith))) (ap yes (aside j 5 (omega arith) (λ e. omega arith))) (ap value_of e) (ap yes (aside j 6 (omega arith) (λ e. omega arith))) (ap yes (aside j 7 (omega arith) (λ e. omega arith))) (out (8080 + j) (inr (omega arith)) (λ e. omega (arith, g.count)))

  value-good : Good w'
  value-good =
      kept-good g value-kept (omega (arith, refilled-sum s h, len-bind w k, words-bind w (get_or w 1 0), words-bind w' (get_or w 1 0))) (λ j l. named j)
      (λ j l. ⊎_elim (λ (e : j ≡ k). rw (e, run-this) (record { one = o.one; names = store.run-names w r.at r.len g.names o.inside })) (λ (d : j ≡ k → ⊥). rw (run-other j l d) (g.whole j l)) (same_or_not j k))

  pub valued : Listed w w' (set (binds w) k (with_value (run_value w r) (bind_at w k))) (consts w) × Past (k + 1) w w'
  valued = (
    kept-listed g value-kept value-good (set-binds w k h w' (with_value (run_value w r) (bind_at w k)) (value-kept.counts 1 (omega arith) (omega arith)) (bind-with k (run w 16 r.at r.len) run-this) (λ j l d. bind-with j (run_at w j) (run-other j l d))),
    (λ j a b. out j (inr (omega arith)) (λ e. omega arith), λ j a b. out j (inr (omega arith)) (λ e. omega (arith, g.count))),
  )

-- the same tree: its nodes, and a run of them
pub same_nodes : (w w' : List ℕ) → tree w' ≡ tree w → get_or w' 0 0 ≡ get_or w 0 0
same_nodes w w' e = sym (tree-length w') ∙ ap length e ∙ tree-length w

pub same-run : (w w' : List ℕ) (i m : ℕ) → tree w' ≡ tree w → i + m ≤ get_or w 0 0 → run w' 16 i m ≡ run w 16 i m
unfolding run
same-run w w' i m e h = tab-ext m (λ j. node_of w' (i + j)) (λ j. node_of w (i + j)) (λ j l.
    let n = same_nodes w w' e in
    sym (tree-at w' (i + j) (omega arith)) ∙ ap (λ (t : List Core). get_or t (i + j) no_core) e ∙ tree-at w (i + j) (omega arith))

-- a run of it
module _ (w w' : List ℕ) (e : tree w' ≡ tree w) (r : Run) (o : Offered w r) where
  pub same-value : run_value w' r ≡ run_value w r
  same-value = ap value_of (same-run w w' r.at r.len e o.inside)

  pub same-offered : Offered w' r
  same-offered = record { inside = let n = same_nodes w w' e in omega (arith, o.inside); one = rw (same-run w w' r.at r.len e o.inside) o.one }

-- none of its nodes
run_none : (w : List ℕ) (i : ℕ) → run w 16 i 0 ≡ []
unfolding run
run_none w i = tab-zero (λ j. core_from w (16 + (i + j) * 2))

module _ (w : List ℕ) (i : ℕ) where
  pub none-value : run_value w (record { at = i; len = 0 }) ≡ none
  none-value = rw (run_none w i) refl

  pub none-offered : i ≤ get_or w 0 0 → Offered w (record { at = i; len = 0 })
  none-offered h = record { inside = omega arith; one = rw (run_none w i) refl }

-- no scope is open: nothing is counted
pub stack-none : (w : List ℕ) → get_or w 2 0 ≡ 0 → stack w ≡ []
stack-none w z = nothing (stack w) (depth_is w ∙ z)
  where
    nothing : (st : Stack) → length st ≡ 0 → st ≡ []
    nothing [] e = refl
    nothing (s ∷ st) e = absurd (omega arith)

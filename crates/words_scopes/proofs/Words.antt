-- How reads and stores of the words show in the stack of scopes. Assumes nothing.
use Rattle.std.proofs.Common.{◌≡◌, ℕ, zero, suc, ◌+◌, ◌-◌, ◌*◌, ◌%◌, ◌<◌, ◌≤◌, Bool, true, false, not, ◌&&◌, ◌||◌, T, eqb, List, [], ◌∷◌, ◌++◌, map, length, get_or, take, drop, set, min, sym, refl, ap, ◌∙◌, subst, ⊎_elim, eq-or-lt_of_le, arith, length-drop, length-set, get_or-drop, get_or-take, get_or-set_other, get_or-set_same, drop-set-lt, eq-eqb, ne_eqb}
use Rattle.std.proofs.Common as std
use mathlib.Core.Option.{Option, none, some}
use Rattle.words_scopes.specs.Mark as marks
use Rattle.words_scopes.specs.declared.binding.Binding.{Binding}
use Rattle.def_tree.specs.Base.{pick}
use Rattle.def_tree.specs.Tree.{Tree, Core, no_core}
use Rattle.def_pass.specs.Tree.{is_ident, num}
use Rattle.def_pass.specs.Scope.{VarType, VarInfo, Stack, Free, change, prevent, count_one, prevent_inline, prevent_one, value_is, has_in}
use Rattle.words.specs.Tab.{tab, sum, length-tab, get_d-tab, tab-ext, set-tab, take-tab, sum-ext, sum-part, sum-le, below_or_not}
use Rattle.words.specs.Flags.{flag_at}
use Rattle.words.specs.Layout.{yes, Agree, core_from, tree, beyond}
use Rattle.words.proofs.Flags.{flag_same}
use Rattle.words.proofs.Nodes.{run-same, run_length, run-at, tree-same}
use Rattle.words_scopes.specs.State.{scope_kind_of, split, var_type_of, alias_at, value_of, len_at, off, run_at, bind_at, with_count, clen_at, coff, crun_at, const_at, targeted, Head, unres_at, head_at, heads_at, heads, flags, binds, consts, stack, Fits, Good, Becomes, place, index_in, hit_at, name_of, record_at, no_record, Window, Whole, Others}
use Rattle.words_scopes.proofs.Split as laws
use Rattle.words_scopes.proofs.Index.{begins, beside_same}

-- what holds of no place from a up to k, nor of k, holds of none up to k + 1
pub none_more : {P : ℕ → Type 0} (a k : ℕ) → ((j : ℕ) → a ≤ j → j < k → P j → ⊥) → (P k → ⊥) → (j : ℕ) → a ≤ j → j < k + 1 → P j → ⊥
none_more {P} a k h n j l m p = ⊎_elim (λ (e : j ≡ k). n (rw e at p)) (λ (q : j < k). h j l q p) (eq-or-lt_of_le (omega arith))

-- the search, scope by scope
abbrev pub up_to : List ℕ → ℕ → List VarInfo
up_to w e = tab e (λ k. bind_at w k)

module _ (w : List ℕ) (x k e r : ℕ) (f : Fits (heads_at w (suc k)) e) (low : get_or w (7184 + k * 4 + 1) 0 ≤ r) (miss : (j : ℕ) → get_or w (7184 + k * 4 + 1) 0 ≤ j → j < r → get_or w (4112 + j * 10) 0 ≡ x → ⊥) where
  abbrev a : ℕ
  a = get_or w (7184 + k * 4 + 1) 0

  at : (j : ℕ) → a + j < e → get_or (drop a (up_to w e)) j laws.no_bind ≡ bind_at w (a + j)
  at j h = get_or-drop a (up_to w e) j laws.no_bind ∙ get_d-tab e (λ k. bind_at w k) (a + j) laws.no_bind h

  len : length (drop a (up_to w e)) ≡ e - a
  len = length-drop a (up_to w e) ∙ ap (λ (n : ℕ). n - a) (length-tab e (λ k. bind_at w k))

  named : (j : ℕ) → a ≤ j → j < e → (get_or (drop a (up_to w e)) (j - a) laws.no_bind).id ≡ get_or w (4112 + j * 10) 0
  named j l h = let q : a + (j - a) ≡ j = omega arith in ap (λ (b : VarInfo). b.id) (at (j - a) (omega arith)) ∙ ap (λ (n : ℕ). get_or w (4112 + n * 10) 0) q

  other : (j : ℕ) → a + j < r → a + j < e → (get_or (drop a (up_to w e)) j laws.no_bind).id ≡ x → ⊥
  other j h l q = miss (a + j) (omega arith) h (sym (ap (λ (b : VarInfo). b.id) (at j l)) ∙ q)

  pub scan-hit : r < e → get_or w (4112 + r * 10) 0 ≡ x → (has_in x (drop a (up_to w e)) ≡ true) × (index_in x (drop a (up_to w e)) ≡ r - a)
  scan-hit h q = laws.in-hit x (drop a (up_to w e)) (r - a) (omega (arith, len)) (named r low h ∙ q) (λ j l. other j (omega arith) (omega arith))

  pub scan-miss : e ≤ r → has_in x (drop a (up_to w e)) ≡ false
  scan-miss h = laws.in-miss x (drop a (up_to w e)) (λ j l. other j (omega (arith, len)) (omega (arith, len)))

  pub step-hit : r < e → get_or w (4112 + r * 10) 0 ≡ x → place x (heads_at w (suc k)) (up_to w e) ≡ r + 1
  unfolding heads_at
  step-hit h q =
      let t = scan-hit h q in
      laws.place-yes x (head_at w k) (heads_at w k) (up_to w e) t.0 ∙ omega (arith, t.1)

  pub step-miss : e ≤ r → (place x (heads_at w (suc k)) (up_to w e) ≡ place x (heads_at w k) (up_to w a)) × (a ≤ e) × Fits (heads_at w k) a
  unfolding heads_at
  step-miss h = (
    laws.place-no x (head_at w k) (heads_at w k) (up_to w e) (scan-miss h) ∙ ap (place x (heads_at w k)) (take-tab a e (λ j. bind_at w j) f.0),
    f.0,
    f.1,
  )

-- all but the bindings' own words and their values is kept
pub record Kept (w w' : List ℕ) : Type 0 where
  pub size : length w' ≡ length w
  pub counts : Agree 0 16 w w'
  pub nodes : Agree 16 2064 w w'
  pub cstore : Agree 3088 4112 w w'
  pub tail : Agree 6672 8080 w w'
  pub high : Agree 8336 16384 w w'
  pub flag : (k : ℕ) → k < 256 → get_or w' (4112 + k * 10 + 9) 0 ≡ get_or w (4112 + k * 10 + 9) 0
  pub rest : beyond w' ≡ beyond w

pub others-self : (w : List ℕ) → Others w w
others-self w = record { low = λ j a b. refl; high = λ j a b. refl }

pub kept_self : (w : List ℕ) → Kept w w
kept_self w = record { size = refl; counts = λ j a b. refl; nodes = λ j a b. refl; cstore = λ j a b. refl; tail = λ j a b. refl; high = λ j a b. refl; flag = λ k a. refl; rest = refl }

pub kept_then : {u v w : List ℕ} → Kept u v → Kept v w → Kept u w
kept_then a b = record {
  size = b.size ∙ a.size;
  counts = λ j l h. b.counts j l h ∙ a.counts j l h;
  nodes = λ j l h. b.nodes j l h ∙ a.nodes j l h;
  cstore = λ j l h. b.cstore j l h ∙ a.cstore j l h;
  tail = λ j l h. b.tail j l h ∙ a.tail j l h;
  high = λ j l h. b.high j l h ∙ a.high j l h;
  flag = λ k l. b.flag k l ∙ a.flag k l;
  rest = b.rest ∙ a.rest;
}

-- no value
pub whole-none : Whole []
whole-none = record { one = refl; names = λ j e. omega arith }

-- what follows of the parts
head-eq : {a a' b b' : ℕ} {c c' d d' : ℕ} {u u' : List ℕ} → a ≡ a' → b ≡ b' → c ≡ c' → d ≡ d' → u ≡ u'
    → ◌≡◌ {A = Head} (record { kind = scope_kind_of a; start = b; cstart = c; zeroth = d; unres = u }) (record { kind = scope_kind_of a'; start = b'; cstart = c'; zeroth = d'; unres = u' })
head-eq p q r s t = cc

-- the first k scopes are kept
pub heads-part : (w w' : List ℕ) (k : ℕ) → Agree 7184 (7184 + k * 4) w w' → Agree 7312 (7312 + k * 8) w w' → heads_at w' k ≡ heads_at w k
unfolding heads_at unres_at
heads-part w w' zero a b = refl
heads-part w w' (suc k) a b =
    let u : tab 256 (λ j. flag_at w' (7312 + k * 8) j) ≡ tab 256 (λ j. flag_at w (7312 + k * 8) j) = tab-ext 256 (λ j. flag_at w' (7312 + k * 8) j) (λ j. flag_at w (7312 + k * 8) j) (λ j l. flag_same w w' (7312 + k * 8) j l (λ i m. b (7312 + k * 8 + i) (omega arith) (omega arith))) in
    let q : head_at w' k ≡ head_at w k = head-eq (a (7184 + k * 4) (omega arith) (omega arith)) (a (7184 + k * 4 + 1) (omega arith) (omega arith)) (a (7184 + k * 4 + 2) (omega arith) (omega arith)) (a (7184 + k * 4 + 3) (omega arith) (omega arith)) u in
    rw (q, heads-part w w' k (λ j l m. a j l (omega arith)) (λ j l m. b j l (omega arith))) refl

-- the first n constants are kept
module _ {w : List ℕ} (w' : List ℕ) (g : Good w) (n : ℕ) (h : n ≤ get_or w 3 0) (cs : Agree 3088 4112 w w') (ct : Agree 6672 (6672 + n * 2) w w') where
  pub part-coff : (k : ℕ) → k ≤ n → coff w' k ≡ coff w k
  part-coff k l = sum-ext (λ j. clen_at w' j) (λ j. clen_at w j) k (λ j m. ct (6672 + j * 2 + 1) (omega arith) (omega arith))

  pub part-crun : (k : ℕ) → k < n → crun_at w' k ≡ crun_at w k
  part-crun k l =
      rw (part-coff k (omega arith), ct (6672 + k * 2 + 1) (omega arith) (omega arith))
      (run-same w w' 3088 (coff w k) (clen_at w k) 512 (omega (arith, sum-part (λ j. clen_at w j) k (get_or w 3 0) (omega arith), g.cvals)) (λ j a b. cs j a (omega arith)))

  pub part-consts : tab n (λ k. const_at w' k) ≡ tab n (λ k. const_at w k)
  part-consts = tab-ext n (λ k. const_at w' k) (λ k. const_at w k) (λ k l. rw (part-crun k l, ct (6672 + k * 2) (omega arith) (omega arith)) refl)

-- what is targeted, and that a constant is free of it
pub targeted-same : (w w' : List ℕ) → Agree 16016 16024 w w' → targeted w' ≡ targeted w
unfolding targeted
targeted-same w w' same = ap {B = ℕ → Bool} (λ (l : List ℕ). λ (j : ℕ). yes (get_or l j 0)) (tab-ext 256 (λ i. flag_at w' 16016 i) (λ i. flag_at w 16016 i) (λ i l. flag_same w w' 16016 i l (λ k m. same (16016 + k) (omega arith) (omega arith))))

pub free-same : (w w' : List ℕ) (k : ℕ) → Agree 16016 16024 w w' → crun_at w' k ≡ crun_at w k → Free (targeted w) (value_of (crun_at w k)) → Free (targeted w') (value_of (crun_at w' k))
free-same w w' k same e h = subst (λ (tg : ℕ → Bool). Free tg (value_of (crun_at w' k))) (sym (targeted-same w w' same)) (subst (λ (xs : List Core). Free (targeted w) (value_of xs)) (sym e) h)

pub part-tree : {w : List ℕ} (w' : List ℕ) → Good w → get_or w' 0 0 ≡ get_or w 0 0 → Agree 16 2064 w w' → tree w' ≡ tree w
part-tree {w} w' g e t = tree-same w w' g.nodes e t

module _ {w w' : List ℕ} (g : Good w) (t : Kept w w') where
  pub kept-heads : heads w' ≡ heads w
  unfolding heads
  kept-heads = let l = g.depth in rw (t.counts 2 (omega arith) (omega arith)) (heads-part w w' (get_or w 2 0) (λ j a b. t.tail j (omega arith) (omega arith)) (λ j a b. t.tail j (omega arith) (omega arith)))

  pub kept-flags : flags w' ≡ flags w
  unfolding flags
  kept-flags = rw (t.counts 1 (omega arith) (omega arith)) (tab-ext (get_or w 1 0) (λ k. get_or w' (4112 + k * 10 + 9) 0) (λ k. get_or w (4112 + k * 10 + 9) 0) (λ k l. t.flag k (omega (arith, g.count))))

  kept-const : Agree 6672 (6672 + get_or w 3 0 * 2) w w'
  kept-const = let l = g.ccount in λ j a b. t.tail j a (omega arith)

  pub kept-consts : consts w' ≡ consts w
  unfolding consts
  kept-consts = rw (t.counts 3 (omega arith) (omega arith)) (part-consts w' g (get_or w 3 0) (omega arith) t.cstore kept-const)

  pub kept-tree : tree w' ≡ tree w
  kept-tree = part-tree w' g (t.counts 0 (omega arith) (omega arith)) t.nodes

  kept-others : Others w w'
  kept-others = record { low = λ j a b. t.counts j (omega arith) b; high = t.high }

  -- the values are within their limit, those of bindings whole, and the bindings' names are kept
  pub kept-good : off w' (get_or w 1 0) + coff w (get_or w 3 0) ≤ 512 → ((k : ℕ) → k < get_or w 1 0 → get_or w' (4112 + k * 10) 0 ≡ get_or w (4112 + k * 10) 0) → ((k : ℕ) → k < get_or w 1 0 → Whole (run_at w' k)) → Good w'
  kept-good o i v = record {
    long = rw t.size g.long;
    nodes = rw (t.counts 0 (omega arith) (omega arith)) g.nodes;
    count = rw (t.counts 1 (omega arith) (omega arith)) g.count;
    depth = rw (t.counts 2 (omega arith) (omega arith)) g.depth;
    ccount = rw (t.counts 3 (omega arith) (omega arith)) g.ccount;
    vals = rw (t.counts 1 (omega arith) (omega arith)) (omega arith);
    cvals = rw (t.counts 3 (omega arith) (omega arith), part-coff w' g (get_or w 3 0) (omega arith) t.cstore kept-const (get_or w 3 0) (omega arith)) g.cvals;
    live = rw (t.counts 1 (omega arith) (omega arith), t.counts 3 (omega arith) (omega arith)) g.live;
    recorded = rw (t.counts 1 (omega arith) (omega arith), t.counts 3 (omega arith) (omega arith), part-coff w' g (get_or w 3 0) (omega arith) t.cstore kept-const (get_or w 3 0) (omega arith)) o;
    fits = rw (kept-heads, t.counts 1 (omega arith) (omega arith)) g.fits;
    cfits = rw (kept-heads, t.counts 3 (omega arith) (omega arith)) g.cfits;
    ids = rw (t.counts 1 (omega arith) (omega arith)) (λ k h. rw (i k h) (g.ids k h));
    cids = rw (t.counts 3 (omega arith) (omega arith)) (λ k h. rw (kept-const (6672 + k * 2) (omega arith) (omega arith)) (g.cids k h));
    names = rw kept-tree g.names;
    whole = rw (t.counts 1 (omega arith) (omega arith)) v;
    cwhole = rw (t.counts 3 (omega arith) (omega arith)) (λ k h. rw (part-crun w' g (get_or w 3 0) (omega arith) t.cstore kept-const k h) (g.cwhole k h));
    beside = beside_same g.beside (t.counts 1 (omega arith) (omega arith)) (ap (map begins) kept-heads) i (λ j a b. t.tail j (omega arith) (omega arith)) g.count;
    cfree = rw (t.counts 3 (omega arith) (omega arith)) (λ k h. free-same w w' k (λ j a b. t.high j (omega arith) (omega arith)) (part-crun w' g (get_or w 3 0) (omega arith) t.cstore kept-const k h) (g.cfree k h));
  }

  -- the bindings changed to bs
  pub kept-becomes : (bs : List VarInfo) (st : Stack) → Good w' → binds w' ≡ bs → st ≡ split (heads w) (flags w) bs (consts w) → Becomes w w' st
  unfolding stack
  kept-becomes bs st good e s = record { good = good; is = rw (kept-heads, kept-flags, kept-consts, e, s) refl; tree = kept-tree; others = kept-others; rest = t.rest }

-- the bindings' names are what they were, and their values where they were
pub record Runs (w w' : List ℕ) : Type 0 where
  pub lens : (k : ℕ) → k < 256 → len_at w' k ≡ len_at w k
  pub ids : (k : ℕ) → k < 256 → get_or w' (4112 + k * 10) 0 ≡ get_or w (4112 + k * 10) 0
  pub store : Agree 2064 3088 w w'

pub runs-self : (w : List ℕ) → Runs w w
runs-self w = record { lens = λ k l. refl; ids = λ k l. refl; store = λ j a b. refl }

pub runs_then : {u v w : List ℕ} → Runs u v → Runs v w → Runs u w
runs_then a b = record { lens = λ k l. b.lens k l ∙ a.lens k l; ids = λ k l. b.ids k l ∙ a.ids k l; store = λ j l h. b.store j l h ∙ a.store j l h }

module _ {w w' : List ℕ} (g : Good w) (r : Runs w w') where
  pub runs-off : (k : ℕ) → k ≤ 256 → off w' k ≡ off w k
  runs-off k h = sum-ext (λ j. len_at w' j) (λ j. len_at w j) k (λ j l. r.lens j (omega arith))

  pub runs-at : (k : ℕ) → k < get_or w 1 0 → run_at w' k ≡ run_at w k
  runs-at k h =
      let l = g.count in
      rw (runs-off k (omega arith), r.lens k (omega arith))
      (run-same w w' 2064 (off w k) (len_at w k) 512 (omega (arith, sum-part (λ j. len_at w j) k (get_or w 1 0) h, g.vals)) (λ j a b. r.store j a (omega arith)))

  pub runs-good : Kept w w' → Good w'
  runs-good t = kept-good g t (rw (runs-off (get_or w 1 0) g.count) g.recorded) (λ k h. let l = g.count in r.ids k (omega arith)) (λ k h. rw (runs-at k h) (g.whole k h))

-- a binding by its fields, and by its words
pub bind-eq : {a a' d d' : ℕ} {b b' : VarType} {c c' : Option VarType} {e e' f f' h h' i i' : Bool} {v v' : Option Tree} {n n' : ℕ} → a ≡ a' → b ≡ b' → c ≡ c' → d ≡ d' → e ≡ e' → f ≡ f' → v ≡ v' → h ≡ h' → i ≡ i' → n ≡ n'
    → ◌≡◌ {A = VarInfo} (record { id = a; kind = b; alias_of = c; read_cnt = d; inline_prevented = e; is_undefined = f; value = v; this_sensitive = h; hoisted = i; count = n })
    (record { id = a'; kind = b'; alias_of = c'; read_cnt = d'; inline_prevented = e'; is_undefined = f'; value = v'; this_sensitive = h'; hoisted = i'; count = n' })
bind-eq p q r s t u v x y z = cc

pub bind-same : (w w' : List ℕ) (j : ℕ) → Agree (4112 + j * 10) (4112 + j * 10 + 8) w w' → run_at w' j ≡ run_at w j → get_or w' (8080 + j) 0 ≡ get_or w (8080 + j) 0 → bind_at w' j ≡ bind_at w j
bind-same w w' j f r c =
    let at : (q : ℕ) → q < 8 → get_or w' (4112 + j * 10 + q) 0 ≡ get_or w (4112 + j * 10 + q) 0 = λ q l. f (4112 + j * 10 + q) (omega arith) (omega arith) in
    bind-eq (f (4112 + j * 10) (omega arith) (omega arith)) (ap var_type_of (at 1 (omega arith))) (ap alias_at (at 2 (omega arith))) (at 3 (omega arith))
    (ap yes (at 4 (omega arith))) (ap yes (at 5 (omega arith))) (ap value_of r) (ap yes (at 6 (omega arith))) (ap yes (at 7 (omega arith))) c

-- binding k changed by f, and no other: the innermost one of x, if that is its place
module _ {w w' : List ℕ} (g : Good w) (t : Kept w w') (k : ℕ) (h : k < get_or w 1 0) (f : VarInfo → VarInfo) (this : bind_at w' k ≡ f (bind_at w k)) (other : (j : ℕ) → j < get_or w 1 0 → (j ≡ k → ⊥) → bind_at w' j ≡ bind_at w j) where
  pub changed : Good w' → (x : ℕ) → place x (heads w) (binds w) ≡ suc k → Becomes w w' (change x f (stack w))
  unfolding stack binds
  changed good x e =
      let b : ℕ → VarInfo = λ j. bind_at w j in
      let n : ℕ = get_or w 1 0 in
      let there : get_or (tab n b) k laws.no_bind ≡ bind_at w k = get_d-tab n b k laws.no_bind h in
      let new : tab (get_or w' 1 0) (λ j. bind_at w' j) ≡ laws.touch k f (tab n b) =
      rw (t.counts 1 (omega arith) (omega arith)) (set-tab n b (λ j. bind_at w' j) k (f (bind_at w k)) h this other ∙ sym (laws.touch-set k f (tab n b) laws.no_bind (rw length-tab h) ∙ ap (λ (c : VarInfo). set (tab n b) k (f c)) there)) in
      kept-becomes g t (laws.touch k f (tab n b)) (change x f (split (heads w) (flags w) (tab n b) (consts w))) good new
      (laws.change-place x f (heads w) (flags w) (tab n b) (consts w) ∙ rw e refl)

pub unfound : (w : List ℕ) (x : ℕ) (f : VarInfo → VarInfo) → Good w → place x (heads w) (binds w) ≡ 0 → Becomes w w (change x f (stack w))
unfolding stack
unfound w x f g e = record { good = g; is = sym (laws.change-place x f (heads w) (flags w) (binds w) (consts w) ∙ rw e refl); tree = refl; others = others-self w; rest = refl }

-- field q of binding k is stored: not its name, its value's length or its barrier
module _ (w : List ℕ) (g : Good w) (k : ℕ) (h : k < get_or w 1 0) (q v : ℕ) (lo : 0 < q) (hi : q < 8) where
  abbrev w' : List ℕ
  w' = set w (4112 + k * 10 + q) v

  keeps : (j : ℕ) → (j ≡ 4112 + k * 10 + q → ⊥) → get_or w' j 0 ≡ get_or w j 0
  keeps j d = get_or-set_other w (4112 + k * 10 + q) j v 0 d

  -- another field of any record
  pub field-same : (j p : ℕ) → p < 10 → (p ≡ q → ⊥) → get_or w' (4112 + j * 10 + p) 0 ≡ get_or w (4112 + j * 10 + p) 0
  field-same j p l d = keeps (4112 + j * 10 + p) (λ e. d (omega arith))

  pub field-name : (j : ℕ) → get_or w' (4112 + j * 10) 0 ≡ get_or w (4112 + j * 10) 0
  field-name j = keeps (4112 + j * 10) (λ e. omega arith)

  pub field-count : (j : ℕ) → get_or w' (8080 + j) 0 ≡ get_or w (8080 + j) 0
  field-count j = keeps (8080 + j) (λ e. omega (arith, g.count))

  pub field-here : get_or w' (4112 + k * 10 + q) 0 ≡ v
  field-here = let l = g.count in let m = g.long in get_or-set_same w (4112 + k * 10 + q) v 0 (omega arith)

  pub field-kept : Kept w w'
  unfolding beyond
  field-kept =
      let l = g.count in
      record {
        size = simp length-set;
        counts = λ j a b. keeps j (λ e. omega arith);
        nodes = λ j a b. keeps j (λ e. omega arith);
        cstore = λ j a b. keeps j (λ e. omega arith);
        tail = λ j a b. keeps j (λ e. omega arith);
        high = λ j a b. keeps j (λ e. omega arith);
        flag = λ j a. field-same j 9 (omega arith) (λ e. omega arith);
        rest = drop-set-lt 16384 w (4112 + k * 10 + q) v (omega arith);
      }

  pub field-runs : Runs w w'
  field-runs = let l = g.count in record { lens = λ j a. field-same j 8 (omega arith) (λ e. omega arith); ids = λ j a. field-name j; store = λ j a b. keeps j (λ e. omega arith) }

  pub field-good : Good w'
  field-good = runs-good g field-runs field-kept

  pub field-other : (j : ℕ) → j < get_or w 1 0 → (j ≡ k → ⊥) → bind_at w' j ≡ bind_at w j
  field-other j a d = bind-same w w' j (λ i l m. keeps i (λ e. d (omega arith))) (runs-at g field-runs j a) (field-count j)

-- binding k is marked
module _ (w : List ℕ) (g : Good w) (k : ℕ) (h : k < get_or w 1 0) where
  pub mark-this : bind_at (set w (4112 + k * 10 + 4) 1) k ≡ prevent (bind_at w k)
  mark-this =
      let at : (p : ℕ) → p < 10 → (p ≡ 4 → ⊥) → get_or (set w (4112 + k * 10 + 4) 1) (4112 + k * 10 + p) 0 ≡ get_or w (4112 + k * 10 + p) 0 = field-same w g k h 4 1 (omega arith) (omega arith) k in
      bind-eq (field-name w g k h 4 1 (omega arith) (omega arith) k) (ap var_type_of (at 1 (omega arith) (λ e. omega arith))) (ap alias_at (at 2 (omega arith) (λ e. omega arith))) (at 3 (omega arith) (λ e. omega arith))
      (ap yes (field-here w g k h 4 1 (omega arith) (omega arith))) (ap yes (at 5 (omega arith) (λ e. omega arith))) (ap value_of (runs-at g (field-runs w g k h 4 1 (omega arith) (omega arith)) k h)) (ap yes (at 6 (omega arith) (λ e. omega arith))) (ap yes (at 7 (omega arith) (λ e. omega arith))) (field-count w g k h 4 1 (omega arith) (omega arith) k)

-- the count of binding k is stored
module _ (w : List ℕ) (g : Good w) (k : ℕ) (h : k < get_or w 1 0) (v : ℕ) where
  abbrev w'' : List ℕ
  w'' = set w (8080 + k) v

  pub count-apart : (j : ℕ) → (j ≡ 8080 + k → ⊥) → get_or w'' j 0 ≡ get_or w j 0
  count-apart j d = get_or-set_other w (8080 + k) j v 0 d

  pub count_kept : Kept w w''
  unfolding beyond
  count_kept =
      let l = g.count in
      record {
        size = simp length-set;
        counts = λ j a b. count-apart j (λ e. omega arith);
        nodes = λ j a b. count-apart j (λ e. omega arith);
        cstore = λ j a b. count-apart j (λ e. omega arith);
        tail = λ j a b. count-apart j (λ e. omega arith);
        high = λ j a b. count-apart j (λ e. omega arith);
        flag = λ j a. count-apart (4112 + j * 10 + 9) (λ e. omega arith);
        rest = drop-set-lt 16384 w (8080 + k) v (omega arith);
      }

  count_runs : Runs w w''
  count_runs = record { lens = λ j a. count-apart (4112 + j * 10 + 8) (λ e. omega arith); ids = λ j a. count-apart (4112 + j * 10) (λ e. omega arith); store = λ j a b. count-apart j (λ e. omega arith) }

  pub count-good : Good w''
  count-good = runs-good g count_runs count_kept

  pub count-this : bind_at w'' k ≡ with_count v (bind_at w k)
  count-this =
      let l = g.count in
      let m = g.long in
      let at : (q : ℕ) → q < 8 → get_or w'' (4112 + k * 10 + q) 0 ≡ get_or w (4112 + k * 10 + q) 0 = λ q a. count-apart (4112 + k * 10 + q) (λ e. omega arith) in
      bind-eq (count-apart (4112 + k * 10) (λ e. omega arith)) (ap var_type_of (at 1 (omega arith))) (ap alias_at (at 2 (omega arith))) (at 3 (omega arith))
      (ap yes (at 4 (omega arith))) (ap yes (at 5 (omega arith))) (ap value_of (runs-at g count_runs k h)) (ap yes (at 6 (omega arith))) (ap yes (at 7 (omega arith)))
      (get_or-set_same w (8080 + k) v 0 (omega arith))

  pub count-other : (j : ℕ) → j < get_or w 1 0 → (j ≡ k → ⊥) → bind_at w'' j ≡ bind_at w j
  count-other j a d = let l = g.count in bind-same w w'' j (λ i p q. count-apart i (λ e. omega arith)) (runs-at g count_runs j a) (count-apart (8080 + j) (λ e. d (omega arith)))

-- a replacement is counted at binding k
pub counted : (w : List ℕ) (g : Good w) (k : ℕ) (h : k < get_or w 1 0) (x : ℕ) → place x (heads w) (binds w) ≡ suc k → Becomes w (set w (8080 + k) ((get_or w (8080 + k) 0 + 1) % 4294967296)) (change x count_one (stack w))
counted w g k h = (let v = (get_or w (8080 + k) 0 + 1) % 4294967296 in changed g (count_kept w g k h v) k h count_one (count-this w g k h v) (count-other w g k h v) (count-good w g k h v))

-- the identifier that a value is: by its first node
pub name-is : (xs : List Core) → 0 < length xs → name_of (value_of xs) ≡ pick (eqb (get_or xs 0 no_core).kind 21) (std.Some (get_or xs 0 no_core).num) std.None
name-is [] h = absurd (omega arith)
name-is (c ∷ xs) h = refl

pub name-none : (xs : List Core) → length xs ≡ 0 → name_of (value_of xs) ≡ std.None
name-none [] h = refl
name-none (c ∷ xs) h = absurd (omega arith)

module _ (w : List ℕ) (k : ℕ) where
  run-first : 0 < len_at w k → get_or (run_at w k) 0 no_core ≡ core_from w (2064 + off w k * 2)
  run-first h = run-at w 2064 (off w k) (len_at w k) 0 h ∙ ap (λ (n : ℕ). core_from w (2064 + n * 2)) (omega arith)

  pub named_none : len_at w k ≡ 0 → std.None ≡ name_of (bind_at w k).value
  named_none z = sym (name-none (run_at w k) (run_length w 2064 (off w k) (len_at w k) ∙ z))

  module _ (o : ℕ) (z : 0 < len_at w k) (at : o ≡ off w k) where
    named-test : name_of (bind_at w k).value ≡ pick (eqb (get_or w (2064 + o * 2) 0 % 64) 21) (std.Some (get_or w (2064 + o * 2 + 1) 0)) std.None
    named-test = name-is (run_at w k) (omega (arith, run_length w 2064 (off w k) (len_at w k))) ∙ rw (at, run-first z) refl

    pub named-ident : get_or w (2064 + o * 2) 0 % 64 ≡ 21 → std.Some (get_or w (2064 + o * 2 + 1) 0) ≡ name_of (bind_at w k).value
    named-ident e = sym (named-test ∙ rw (eq-eqb (get_or w (2064 + o * 2) 0 % 64) 21 e) refl)

    pub named_other : (get_or w (2064 + o * 2) 0 % 64 ≡ 21 → ⊥) → std.None ≡ name_of (bind_at w k).value
    named_other e = sym (named-test ∙ rw (ne_eqb (get_or w (2064 + o * 2) 0 % 64) 21 e) refl)

-- a binding as a record
pub record-eq : {a a' : ℕ} {b b' : std.Option ℕ} {c c' : Bool} → a ≡ a' → b ≡ b' → c ≡ c' → ◌≡◌ {A = Binding} (record { id = a; value = b; prevented = c }) (record { id = a'; value = b'; prevented = c' })
record-eq p q r = cc

-- record i of a window is stored
pub record-put : (w : List ℕ) (k i : ℕ) (bs : List Binding) (b : Binding) → i < length bs → b ≡ record_at w (k + i) → ((j : ℕ) → j < i → get_or bs j no_record ≡ record_at w (k + j))
    → (j : ℕ) → j < i + 1 → get_or (set bs i b) j no_record ≡ record_at w (k + j)
record-put w k i bs b l e h j m =
    ⊎_elim (λ (q : j ≡ i). rw q (get_or-set_same bs i b no_record l ∙ e)) (λ (q : j < i). get_or-set_other bs i j b no_record (λ z. omega arith) ∙ h j q) (eq-or-lt_of_le (omega arith))

pub get_d_map : (f : Binding → Binding) (bs : List Binding) (j : ℕ) (d : Binding) → j < length bs → get_or (map f bs) j d ≡ f (get_or bs j d)
get_d_map f [] j d l = absurd (omega arith)
get_d_map f (b ∷ bs) zero d l = refl
get_d_map f (b ∷ bs) (suc j) d l = get_d_map f bs j d (omega arith)

-- the mark that a record gets is the one that prevent_inline gives
pick-name : (b : Bool) (m x : ℕ) → marks.is_ident_of (pick b (std.Some m) std.None) x ≡ (b && eqb m x)
pick-name true m x = refl
pick-name false m x = refl

name-hit : (x : ℕ) (v : Option Tree) → marks.is_ident_of (name_of v) x ≡ value_is x v
name-hit x none = refl
name-hit x (some t) = pick-name (is_ident t) (num t) x

or-or : (a b c : Bool) → ((a || b) || c) ≡ (a || (b || c))
or-or true b c = refl
or-or false b c = refl

pub mark-or : (w : List ℕ) (k x : ℕ) → (marks.marked x (record_at w k)).prevented ≡ ((bind_at w k).inline_prevented || hit_at w k x)
mark-or w k x =
    or-or (bind_at w k).inline_prevented (eqb (bind_at w k).id x) (marks.is_ident_of (name_of (bind_at w k).value) x)
    ∙ ap (λ (t : Bool). (bind_at w k).inline_prevented || (eqb (bind_at w k).id x || t)) (name-hit x (bind_at w k).value)

-- a binding that has its mark is as if it were marked
prevent-same : (b : VarInfo) → true ≡ b.inline_prevented → prevent b ≡ b
prevent-same b e = ap (λ (m : Bool). record { id = b.id; kind = b.kind; alias_of = b.alias_of; read_cnt = b.read_cnt; inline_prevented = m; is_undefined = b.is_undefined; value = b.value; this_sensitive = b.this_sensitive; hoisted = b.hoisted; count = b.count }) e

one_hit : (b : VarInfo) (p t : Bool) → p ≡ b.inline_prevented → true ≡ (p || t) → prevent b ≡ pick t (prevent b) b
one_hit b true true q e = refl
one_hit b true false q e = prevent-same b q
one_hit b false true q e = refl
one_hit b false false q e = absurd (subst T e tt)

one-miss : (b : VarInfo) (p t : Bool) → false ≡ (p || t) → b ≡ pick t (prevent b) b
one-miss b true true e = absurd (subst T (sym e) tt)
one-miss b true false e = refl
one-miss b false true e = absurd (subst T (sym e) tt)
one-miss b false false e = refl

one-still : (b : VarInfo) (p t : Bool) → p ≡ b.inline_prevented → false ≡ (not p && t) → b ≡ pick t (prevent b) b
one-still b true true q e = sym (prevent-same b q)
one-still b true false q e = refl
one-still b false true q e = absurd (subst T (sym e) tt)
one-still b false false q e = refl

-- binding k is to get a mark that it has not: the ends of that test
abbrev pub missing : List ℕ → ℕ → ℕ → Bool
missing w k x = not (bind_at w k).inline_prevented && hit_at w k x

yes-some : (v : ℕ) → (v ≡ 0 → ⊥) → yes v ≡ true
yes-some zero h = absurd (h refl)
yes-some (suc v) h = refl

module _ (w : List ℕ) (k x : ℕ) where
  pub missing_has : (get_or w (4112 + k * 10 + 4) 0 ≡ 0 → ⊥) → false ≡ missing w k x
  missing_has h = sym (ap (λ (m : Bool). not m && hit_at w k x) (yes-some (get_or w (4112 + k * 10 + 4) 0) h))

  module _ (h : get_or w (4112 + k * 10 + 4) 0 ≡ 0) where
    pub missing-name : get_or w (4112 + k * 10) 0 ≡ x → true ≡ missing w k x
    missing-name e = sym (rw (h, eq-eqb (get_or w (4112 + k * 10) 0) x e) refl)

    pub missing-value : (get_or w (4112 + k * 10) 0 ≡ x → ⊥) → (v : std.Option ℕ) → v ≡ name_of (bind_at w k).value → marks.is_ident_of v x ≡ missing w k x
    missing-value d v e = ap (λ (m : std.Option ℕ). marks.is_ident_of m x) e ∙ name-hit x (bind_at w k).value ∙ sym (rw (h, ne_eqb (get_or w (4112 + k * 10) 0) x d) refl)

  -- it is not: marked, it is what it is
  pub missing-not : (r : Bool) → r ≡ missing w k x → r ≡ false → bind_at w k ≡ prevent_one x (bind_at w k)
  missing-not r e n = one-still (bind_at w k) (bind_at w k).inline_prevented (hit_at w k x) refl (sym n ∙ e)

-- the values up to a binding's own have room
pub room : (w : List ℕ) → Good w → (k : ℕ) → k < get_or w 1 0 → off w k + len_at w k ≤ 512
room w g k h = omega (arith, sum-part (λ j. len_at w j) k (get_or w 1 0) h, g.vals)

pub off-room : (w : List ℕ) → Good w → (k : ℕ) → k ≤ get_or w 1 0 → off w k ≤ 512
off-room w g k h = omega (arith, sum-le (λ j. len_at w j) k (get_or w 1 0) h, g.vals)

-- the sweep over all bindings: the first k are done
pub record Swept (w₀ w : List ℕ) (x k : ℕ) : Type 0 where
  pub kept : Kept w₀ w
  pub runs : Runs w₀ w
  pub done : (j : ℕ) → j < k → bind_at w j ≡ prevent_one x (bind_at w₀ j)
  pub left : (j : ℕ) → k ≤ j → j < get_or w₀ 1 0 → bind_at w j ≡ bind_at w₀ j

pub swept-self : (w : List ℕ) (x k : ℕ) → ((j : ℕ) → j < k → bind_at w j ≡ prevent_one x (bind_at w j)) → Swept w w x k
swept-self w x k h = record { kept = kept_self w; runs = runs-self w; done = h; left = λ j a b. refl }

module _ {w₀ w : List ℕ} {x k : ℕ} (g : Good w₀) (s : Swept w₀ w x k) (h : k < get_or w₀ 1 0) where
  pub swept-good : Good w
  swept-good = runs-good g s.runs s.kept

  upto : (w' : List ℕ) → bind_at w' k ≡ prevent_one x (bind_at w₀ k) → ((j : ℕ) → j < get_or w₀ 1 0 → (j ≡ k → ⊥) → bind_at w' j ≡ bind_at w j) → (j : ℕ) → j < k + 1 → bind_at w' j ≡ prevent_one x (bind_at w₀ j)
  upto w' e o j l = ⊎_elim (λ (q : j ≡ k). rw q e) (λ (q : j < k). o j (omega arith) (λ z. omega arith) ∙ s.done j q) (eq-or-lt_of_le (omega arith))

  pub swept_same : bind_at w₀ k ≡ prevent_one x (bind_at w₀ k) → Swept w₀ w x (k + 1)
  swept_same e = record {
    kept = s.kept;
    runs = s.runs;
    done = upto w (s.left k (omega arith) h ∙ e) (λ j a b. refl);
    left = λ j a b. s.left j (omega arith) b;
  }

  pub swept-miss : false ≡ ((bind_at w₀ k).inline_prevented || hit_at w₀ k x) → Swept w₀ w x (k + 1)
  swept-miss e = swept_same (one-miss (bind_at w₀ k) (bind_at w₀ k).inline_prevented (hit_at w₀ k x) e)

  -- the words now have no mark to set there: none was to be set
  pub swept-not : (r : Bool) → r ≡ missing w k x → r ≡ false → bind_at w₀ k ≡ prevent_one x (bind_at w₀ k)
  swept-not r e n = sym (s.left k (omega arith) h) ∙ missing-not w k x r e n ∙ ap (prevent_one x) (s.left k (omega arith) h)

  pub swept-hit : true ≡ ((bind_at w₀ k).inline_prevented || hit_at w₀ k x) → Swept w₀ (set w (4112 + k * 10 + 4) 1) x (k + 1)
  swept-hit e =
      let g' = swept-good in
      let n : get_or w 1 0 ≡ get_or w₀ 1 0 = s.kept.counts 1 (omega arith) (omega arith) in
      let h' : k < get_or w 1 0 = omega arith in
      let other : (j : ℕ) → j < get_or w₀ 1 0 → (j ≡ k → ⊥) → bind_at (set w (4112 + k * 10 + 4) 1) j ≡ bind_at w j = λ j a b. field-other w g' k h' 4 1 (omega arith) (omega arith) j (omega arith) b in
      record {
        kept = kept_then s.kept (field-kept w g' k h' 4 1 (omega arith) (omega arith));
        runs = runs_then s.runs (field-runs w g' k h' 4 1 (omega arith) (omega arith));
        done = upto (set w (4112 + k * 10 + 4) 1) (mark-this w g' k h' ∙ ap prevent (s.left k (omega arith) h) ∙ one_hit (bind_at w₀ k) (bind_at w₀ k).inline_prevented (hit_at w₀ k x) refl e) other;
        left = λ j a b. other j b (λ q. omega arith) ∙ s.left j (omega arith) b;
      }

-- marked again, a binding is what it was
one_again : (x : ℕ) (b : VarInfo) → prevent_one x (prevent_one x b) ≡ prevent_one x b
one_again x b = go (eqb b.id x || value_is x b.value) refl
  where
    go : (t : Bool) → (eqb b.id x || value_is x b.value) ≡ t → prevent_one x (pick t (prevent b) b) ≡ pick t (prevent b) b
    go true e = rw e refl
    go false e = rw e refl

-- a sweep goes on from the words that it has come to
module _ {w₀ w : List ℕ} {x k : ℕ} (s : Swept w₀ w x k) where
  pub swept-on : Swept w w x k
  swept-on = swept-self w x k (λ j l. s.done j l ∙ sym (one_again x (bind_at w₀ j)) ∙ ap (prevent_one x) (sym (s.done j l)))

  pub swept-then : {u : List ℕ} (m : ℕ) → k ≤ m → m ≤ get_or w₀ 1 0 → Swept w u x m → Swept w₀ u x m
  swept-then {u} m l h t = record {
    kept = kept_then s.kept t.kept;
    runs = runs_then s.runs t.runs;
    done = λ j a. ⊎_elim (λ (q : j < k). t.done j a ∙ ap (prevent_one x) (s.done j q) ∙ one_again x (bind_at w₀ j)) (λ (q : k ≤ j). t.done j a ∙ ap (prevent_one x) (s.left j q (omega arith))) (below_or_not j k);
    left = λ j a b. t.left j a (let n : get_or w 1 0 ≡ get_or w₀ 1 0 = s.kept.counts 1 (omega arith) (omega arith) in omega arith) ∙ s.left j (omega arith) b;
  }

-- the marked records from k on stand in bs from i on
abbrev pub Ahead : List ℕ → ℕ → ℕ → ℕ → List Binding → Type 0
Ahead w x k i bs = (j : ℕ) → i + j < 8 → k + j < get_or w 1 0 → get_or bs (i + j) no_record ≡ marks.marked x (record_at w (k + j))

module _ {w₀ w : List ℕ} {x k : ℕ} (s : Swept w₀ w x k) where
  pub ahead-load : (bs : List Binding) → Window (marks.marked x) w k bs → Ahead w₀ x k 0 bs
  ahead-load bs f j l h =
      let n : get_or w 1 0 ≡ get_or w₀ 1 0 = s.kept.counts 1 (omega arith) (omega arith) in
      ap (λ (m : ℕ). get_or bs m no_record) (omega arith) ∙ f j (omega arith) (omega arith)
      ∙ ap (λ (b : VarInfo). marks.marked x (record { id = b.id; value = name_of b.value; prevented = b.inline_prevented })) (s.left (k + j) (omega arith) h)

-- the first of them, as many as there are bindings
pub ahead-take : (w : List ℕ) (x k : ℕ) (bs : List Binding) {e : ℕ} → e ≡ min (get_or w 1 0 - k) 8 → Ahead w x k 0 bs → Ahead w x k 0 (take e bs)
ahead-take w x k bs {e} m f j l h =
    let z : 0 + j ≡ j = omega arith in
    rw z (get_or-take e bs j no_record (omega arith)) ∙ rw z at (f j l h)

pub ahead-next : (w : List ℕ) (x k i : ℕ) (bs : List Binding) → Ahead w x k i bs → Ahead w x (k + 1) (i + 1) bs
ahead-next w x k i bs f j l h =
    ap (λ (m : ℕ). get_or bs m no_record) (omega arith) ∙ f (j + 1) (omega arith) (omega arith) ∙ ap (λ (m : ℕ). marks.marked x (record_at w m)) (omega arith)

-- the next of them has the mark that its binding is to have
pub ahead-this : (w : List ℕ) (x k i : ℕ) (bs : List Binding) → Ahead w x k i bs → i < 8 → k < get_or w 1 0 → (get_or bs i no_record).prevented ≡ ((bind_at w k).inline_prevented || hit_at w k x)
ahead-this w x k i bs f l h =
    ap (λ (m : ℕ). (get_or bs m no_record).prevented) (omega arith) ∙ ap (λ (c : Binding). c.prevented) (f 0 (omega arith) (omega arith)) ∙ ap (λ (m : ℕ). (marks.marked x (record_at w m)).prevented) (omega arith) ∙ mark-or w k x

map_snoc : (f : VarInfo → VarInfo) (bs : List VarInfo) (b : VarInfo) → map f (bs ++ (b ∷ [])) ≡ map f bs ++ (f b ∷ [])
map_snoc f [] b = refl
map_snoc f (c ∷ bs) b = ap (λ (l : List VarInfo). f c ∷ l) (map_snoc f bs b)

pub map-tab : (f : VarInfo → VarInfo) (n : ℕ) (t : ℕ → VarInfo) → map f (tab n t) ≡ tab n (λ k. f (t k))
unfolding tab
map-tab f zero t = refl
map-tab f (suc n) t = map_snoc f (tab n t) (t n) ∙ rw (map-tab f n t) refl

pub swept_all : {w₀ w : List ℕ} (x : ℕ) → Good w₀ → Swept w₀ w x (get_or w₀ 1 0) → Becomes w₀ w (prevent_inline x (stack w₀))
unfolding stack binds
swept_all {w₀} {w} x g s =
    let n : ℕ = get_or w₀ 1 0 in
    let new : tab (get_or w 1 0) (λ k. bind_at w k) ≡ map (prevent_one x) (tab n (λ k. bind_at w₀ k)) =
    rw (s.kept.counts 1 (omega arith) (omega arith)) (tab-ext n (λ k. bind_at w k) (λ k. prevent_one x (bind_at w₀ k)) s.done ∙ sym (map-tab (prevent_one x) n (λ k. bind_at w₀ k))) in
    kept-becomes g s.kept (map (prevent_one x) (tab n (λ k. bind_at w₀ k))) (prevent_inline x (split (heads w₀) (flags w₀) (tab n (λ k. bind_at w₀ k)) (consts w₀))) (runs-good g s.runs s.kept) new
    (laws.prevent-split x (heads w₀) (flags w₀) (tab n (λ k. bind_at w₀ k)) (consts w₀))

-- the lengths of constants and of bindings, as their tables have them
pub words-const : (w : List ℕ) (k : ℕ) → sum (λ j. get_or w (6673 + j * 2) 0) k ≡ coff w k
words-const w k = sum-ext (λ j. get_or w (6673 + j * 2) 0) (λ j. clen_at w j) k (λ j l. let e : 6673 + j * 2 ≡ 6672 + j * 2 + 1 = omega arith in ap (λ (i : ℕ). get_or w i 0) e)

pub words-bind : (w : List ℕ) (k : ℕ) → sum (λ j. get_or w (4120 + j * 10) 0) k ≡ off w k
words-bind w k = sum-ext (λ j. get_or w (4120 + j * 10) 0) (λ j. len_at w j) k (λ j l. let e : 4120 + j * 10 ≡ 4112 + j * 10 + 8 = omega arith in ap (λ (i : ℕ). get_or w i 0) e)

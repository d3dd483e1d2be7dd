-- The end of a scope, whole. Assumes nothing.
use Rattle.std.proofs.Common.{◌≡◌, ℕ, zero, suc, ◌+◌, ◌-◌, ◌*◌, ◌<◌, ◌≤◌, Bool, true, false, ◌||◌, ◌⊎◌, List, [], ◌∷◌, ◌++◌, length, get_or, drop, set, sym, refl, ap, ◌∙◌, inl, inr, ⊎_elim, arith, length-drop, length-set, get_or-drop, get_or-set_other, get_or-set_same, ext_get_or}
use Rattle.def_tree.specs.Base.{pick}
use Rattle.def_pass.specs.Scope.{VarInfo, Scope, Stack, is_fn, is_var, put, hoist, hoist_all, on_bindings, close, counts_in, count_in, ending_all, ending}
use Rattle.words.specs.Tab.{tab, sum, sum-next, tab-zero, tab-suc, length-tab, get_d-tab, sum-zero, below_or_not}
use Rattle.words.specs.Layout.{tree}
use Rattle.words.specs.Moved.{Zeroed}
use Rattle.words.proofs.Nodes.{beyond-same, tree-same}
use Rattle.words_scopes.specs.declared.kinds.ScopeKind.{ScopeKind}
use Rattle.words_scopes.specs.declared.kinds.ScopeKind.TheVariants.{Cond, Loop, Block, Fn}
use Rattle.words_scopes.specs.Kinds.{kind_of}
use Rattle.words_scopes.specs.State.{Good, Past, Becomes, bind_at, binds, stack, Fits, heads, head_at, heads_at, scope_kind_of, drop_inner, len_at, clen_at}
use Rattle.words_scopes.proofs.Index.{beside_none}
use Rattle.scope_values.proofs.Count.{depth_is}
use Rattle.scope_values.proofs.Listed.{stack-none}
use Rattle.scope_child.specs.Hoist.{record_at, hoist_up, end_up}
use Rattle.scope_declare.proofs.Top.{top_scope, under, heads-top, stack_top, under-length, top-fits}
use Rattle.scope_child.proofs.Hoist.{record_same}

pub no-fn : (k : ScopeKind) → (k ≡ Cond) ⊎ ((k ≡ Loop) ⊎ (k ≡ Block)) → is_fn (kind_of k) ≡ false
no-fn Cond h = refl
no-fn Loop h = refl
no-fn Block h = refl
no-fn (Fn b) h = ⊎_elim (λ (e : Fn b ≡ Cond). absurd cc) (⊎_elim (λ (e : Fn b ≡ Loop). absurd cc) (λ (e : Fn b ≡ Block). absurd cc)) h

pub close-few : (st : Stack) → length st < 2 → close st ≡ []
unfolding close
close-few [] h = refl
close-few (c ∷ []) h = refl
close-few (c ∷ s ∷ st) h = absurd (omega arith)

pub close-fn : (c : Scope) (u : Stack) → 0 < length u → is_fn c.kind ≡ true → close (c ∷ u) ≡ drop_inner (c ∷ u)
unfolding close
close-fn c [] h e = absurd (omega arith)
close-fn c (s ∷ st) h e = rw e refl

-- the last binding goes up last
hoist-snoc : (us : ℕ → Bool) (xs : List VarInfo) (y : VarInfo) (bs : List VarInfo) → hoist_all us (xs ++ (y ∷ [])) bs ≡ pick (is_var y.kind) (put (hoist us y) (hoist_all us xs bs)) (hoist_all us xs bs)
hoist-snoc us [] y bs = refl
hoist-snoc us (x ∷ xs) y bs = hoist-snoc us xs y (pick (is_var x.kind) (put (hoist us x) bs) bs)

hoist-tab : (f : ℕ → VarInfo) (a n : ℕ) (s : Scope) (st : Stack) → hoist_up f a n (s ∷ st) ≡ on_bindings (hoist_all s.unresolved_usages (tab n (λ j. f (a + j)))) s ∷ st
unfolding tab
hoist-tab f a zero s st = refl
hoist-tab f a (suc n) s st = rw (hoist-tab f a n s st, hoist-snoc s.unresolved_usages (tab n (λ j. f (a + j))) (f (a + n)) s.bindings) refl

-- a value is not looked at
hoist-bare : (w : List ℕ) (a n : ℕ) (us : ℕ → Bool) (bs : List VarInfo) → hoist_all us (tab n (λ j. record_at w (a + j))) bs ≡ hoist_all us (tab n (λ j. bind_at w (a + j))) bs
unfolding tab
hoist-bare w a zero us bs = refl
hoist-bare w a (suc n) us bs = rw (hoist-snoc us (tab n (λ j. record_at w (a + j))) (record_at w (a + n)) bs, hoist-snoc us (tab n (λ j. bind_at w (a + j))) (bind_at w (a + n)) bs, hoist-bare w a n us bs) refl

-- the same of what ends
ending-snoc : (us : ℕ → Bool) (xs : List VarInfo) (y : VarInfo) (bs : List VarInfo) → ending_all us (xs ++ (y ∷ [])) bs ≡ ending_all us xs bs + pick (is_var y.kind) (count_in y.id (hoist_all us xs bs)) y.count
ending-snoc us [] y bs = omega arith
ending-snoc us (x ∷ xs) y bs = omega (arith, ending-snoc us xs y (pick (is_var x.kind) (put (hoist us x) bs) bs))

ending-tab : (f : ℕ → VarInfo) (a n : ℕ) (s : Scope) (st : Stack) → end_up f a n (s ∷ st) ≡ ending_all s.unresolved_usages (tab n (λ j. f (a + j))) s.bindings
unfolding tab
ending-tab f a zero s st = refl
ending-tab f a (suc n) s st = rw (ending-tab f a n s st, hoist-tab f a n s st, ending-snoc s.unresolved_usages (tab n (λ j. f (a + j))) (f (a + n)) s.bindings) refl

ending-bare : (w : List ℕ) (a n : ℕ) (us : ℕ → Bool) (bs : List VarInfo) → ending_all us (tab n (λ j. record_at w (a + j))) bs ≡ ending_all us (tab n (λ j. bind_at w (a + j))) bs
unfolding tab
ending-bare w a zero us bs = refl
ending-bare w a (suc n) us bs = rw (ending-snoc us (tab n (λ j. record_at w (a + j))) (record_at w (a + n)) bs, ending-snoc us (tab n (λ j. bind_at w (a + j))) (bind_at w (a + n)) bs, hoist-bare w a n us bs, ending-bare w a n us bs) refl

counts-snoc : (xs : List VarInfo) (b : VarInfo) → counts_in (xs ++ (b ∷ [])) ≡ counts_in xs + b.count
counts-snoc [] b = omega arith
counts-snoc (x ∷ xs) b = omega (arith, counts-snoc xs b)

-- the counts from a on, n of them, as their table has them
pub sum_counts : (w : List ℕ) (a n : ℕ) → sum (λ j. get_or w (8080 + j * 1) 0) (a + n) ≡ sum (λ j. get_or w (8080 + j * 1) 0) a + counts_in (tab n (λ i. bind_at w (a + i)))
sum_counts w a zero = let e : a + 0 ≡ a = omega arith in rw (e, tab-zero (λ i. bind_at w (a + i))) (omega arith)
sum_counts w a (suc n) =
    let f : ℕ → ℕ = λ j. get_or w (8080 + j * 1) 0 in
    let e : a + suc n ≡ a + n + 1 = omega arith in
    let m : suc n ≡ n + 1 = omega arith in
    let q : 8080 + (a + n) * 1 ≡ 8080 + (a + n) = omega arith in
    let at : f (a + n) ≡ get_or w (8080 + (a + n)) 0 = ap (λ (i : ℕ). get_or w i 0) q in
    let t : counts_in (tab (suc n) (λ i. bind_at w (a + i))) ≡ counts_in (tab n (λ i. bind_at w (a + i))) + get_or w (8080 + (a + n)) 0 =
    rw m (ap counts_in (tab-suc n (λ i. bind_at w (a + i))) ∙ counts-snoc (tab n (λ i. bind_at w (a + i))) (bind_at w (a + n))) in
    omega (arith, ap (λ (k : ℕ). sum f k) e, sum-next f (a + n), sum_counts w a n, at, t)

drop-tab : (f : ℕ → VarInfo) (a e : ℕ) → a ≤ e → drop a (tab e f) ≡ tab (e - a) (λ j. f (a + j))
drop-tab f a e h =
    let l : length (drop a (tab e f)) ≡ e - a = length-drop a (tab e f) ∙ ap (λ (n : ℕ). n - a) (length-tab e f) in
    ext_get_or (f 0) (drop a (tab e f)) (tab (e - a) (λ j. f (a + j))) (l ∙ sym (length-tab (e - a) (λ j. f (a + j))))
    (λ j q. let m : j < e - a = rw l at q in get_or-drop a (tab e f) j (f 0) ∙ get_d-tab e f (a + j) (f 0) (omega arith) ∙ sym (get_d-tab (e - a) (λ j. f (a + j)) j (f 0) m))

pub close-var : (w : List ℕ) (a : ℕ) (c : Scope) (u : Stack) → a ≤ get_or w 1 0 → c.bindings ≡ drop a (binds w) → 0 < length u → is_fn c.kind ≡ false → hoist_up (λ j. record_at w j) a (get_or w 1 0 - a) (drop_inner (c ∷ u)) ≡ close (c ∷ u)
unfolding close binds
close-var w a c [] h b l e = absurd (omega arith)
close-var w a c (s ∷ st) h b l e =
    let us : ℕ → Bool = λ j. c.unresolved_usages j || s.unresolved_usages j in
    let n : ℕ = get_or w 1 0 in
    let s' : Scope = record { kind = s.kind; inline_barriers = s.inline_barriers; bindings = s.bindings; unresolved_usages = us; constants = s.constants } in
    hoist-tab (λ j. record_at w j) a (n - a) s' st ∙ rw (e, b, drop-tab (λ j. bind_at w j) a n h, hoist-bare w a (n - a) us s.bindings) refl

pub ending-var : (w : List ℕ) (a : ℕ) (c : Scope) (u : Stack) → a ≤ get_or w 1 0 → c.bindings ≡ drop a (binds w) → 0 < length u → is_fn c.kind ≡ false → end_up (λ j. record_at w j) a (get_or w 1 0 - a) (drop_inner (c ∷ u)) ≡ ending (c ∷ u)
unfolding ending binds
ending-var w a c [] h b l e = absurd (omega arith)
ending-var w a c (s ∷ st) h b l e =
    let us : ℕ → Bool = λ j. c.unresolved_usages j || s.unresolved_usages j in
    let n : ℕ = get_or w 1 0 in
    let s' : Scope = record { kind = s.kind; inline_barriers = s.inline_barriers; bindings = s.bindings; unresolved_usages = us; constants = s.constants } in
    ending-tab (λ j. record_at w j) a (n - a) s' st ∙ rw (e, b, drop-tab (λ j. bind_at w j) a n h, ending-bare w a (n - a) us s.bindings) refl

ending-fn : (c : Scope) (u : Stack) → 0 < length u → is_fn c.kind ≡ true → ending (c ∷ u) ≡ counts_in c.bindings
unfolding ending
ending-fn c [] h e = absurd (omega arith)
ending-fn c (s ∷ st) h e = rw e refl

ending-one : (c : Scope) (u : Stack) → length u ≡ 0 → ending (c ∷ u) ≡ counts_in c.bindings
unfolding ending
ending-one c [] h = refl
ending-one c (s ∷ st) h = absurd (omega arith)

-- the counts of the innermost scope are those of the bindings from its first on
module _ (w : List ℕ) (g : Good w) (z : 0 < get_or w 2 0) where
  top-counts : counts_in (top_scope w g z).bindings ≡ counts_in (tab (get_or w 1 0 - get_or w (7184 + (get_or w 2 0 - 1) * 4 + 1) 0) (λ j. bind_at w (get_or w (7184 + (get_or w 2 0 - 1) * 4 + 1) 0 + j)))
  unfolding binds
  top-counts = ap counts_in (drop-tab (λ j. bind_at w j) (get_or w (7184 + (get_or w 2 0 - 1) * 4 + 1) 0) (get_or w 1 0) (top-fits w g z))

  pub ends-fn : 1 < get_or w 2 0 → is_fn (scope_kind_of (get_or w (7184 + (get_or w 2 0 - 1) * 4) 0)) ≡ true → ending (stack w) ≡ counts_in (tab (get_or w 1 0 - get_or w (7184 + (get_or w 2 0 - 1) * 4 + 1) 0) (λ j. bind_at w (get_or w (7184 + (get_or w 2 0 - 1) * 4 + 1) 0 + j)))
  ends-fn m h = ap ending (stack_top w g z) ∙ ending-fn (top_scope w g z) (under w g z) (omega (arith, under-length w g z)) h ∙ top-counts

pub up_same : (f g : ℕ → VarInfo) (a n : ℕ) (st : Stack) → ((j : ℕ) → j < n → f (a + j) ≡ g (a + j)) → hoist_up f a n st ≡ hoist_up g a n st
up_same f g a zero st h = refl
up_same f g a (suc n) st h = rw (h n (omega arith), up_same f g a n st (λ j l. h j (omega arith))) refl

end_same : (f g : ℕ → VarInfo) (a n : ℕ) (st : Stack) → ((j : ℕ) → j < n → f (a + j) ≡ g (a + j)) → end_up f a n st ≡ end_up g a n st
end_same f g a zero st h = refl
end_same f g a (suc n) st h = rw (h n (omega arith), up_same f g a n st (λ j l. h j (omega arith)), end_same f g a n st (λ j l. h j (omega arith))) refl

-- no scope, no record
module _ (w u : List ℕ) (g : Good w) (zeroth : Zeroed w u 7568 256) where
  abbrev x : List ℕ
  x = set (set (set u 1 0) 2 0) 3 0

  after : (j : ℕ) → (j ≡ 1 → ⊥) → (j ≡ 2 → ⊥) → (j ≡ 3 → ⊥) → get_or x j 0 ≡ get_or u j 0
  after j a b c = get_or-set_other (set (set u 1 0) 2 0) 3 j 0 0 c ∙ get_or-set_other (set u 1 0) 2 j 0 0 b ∙ get_or-set_other u 1 j 0 0 a

  keeps : (j : ℕ) → (j < 7568) ⊎ (7824 ≤ j) → (j ≡ 1 → ⊥) → (j ≡ 2 → ⊥) → (j ≡ 3 → ⊥) → get_or x j 0 ≡ get_or w j 0
  keeps j o a b c = after j a b c ∙ ⊎_elim (λ (l : j < 7568). zeroth.low j l) (λ (l : 7824 ≤ j). zeroth.high j l) o

  size : length x ≡ length w
  size = simp length-set zeroth.size

  n1 : get_or x 1 0 ≡ 0
  n1 = let l = g.long in get_or-set_other (set (set u 1 0) 2 0) 3 1 0 0 (λ e. omega arith) ∙ get_or-set_other (set u 1 0) 2 1 0 0 (λ e. omega arith) ∙ get_or-set_same u 1 0 0 (omega (arith, zeroth.size))

  n2 : get_or x 2 0 ≡ 0
  n2 = let l = g.long in get_or-set_other (set (set u 1 0) 2 0) 3 2 0 0 (λ e. omega arith) ∙ get_or-set_same (set u 1 0) 2 0 0 (simp length-set (omega (arith, zeroth.size)))

  n3 : get_or x 3 0 ≡ 0
  n3 = let l = g.long in get_or-set_same (set (set u 1 0) 2 0) 3 0 0 (simp length-set (omega (arith, zeroth.size)))

  n0 : get_or x 0 0 ≡ get_or w 0 0
  n0 = keeps 0 (inl (omega arith)) (λ e. omega arith) (λ e. omega arith) (λ e. omega arith)

  no-tree : tree x ≡ tree w
  no-tree = tree-same w x g.nodes n0 (λ j a b. keeps j (inl (omega arith)) (λ e. omega arith) (λ e. omega arith) (λ e. omega arith))

  no-heads : heads x ≡ []
  unfolding heads heads_at
  no-heads = rw n2 refl

  no-good : Good x
  no-good = record {
    long = rw size g.long;
    nodes = rw n0 g.nodes;
    count = omega (arith, n1);
    depth = omega (arith, n2);
    ccount = omega (arith, n3);
    vals = rw n1 (omega (arith, sum-zero (λ j. len_at x j)));
    cvals = rw n3 (omega (arith, sum-zero (λ j. clen_at x j)));
    live = omega (arith, n1, n3);
    recorded = rw (n1, n3) (omega (arith, sum-zero (λ j. len_at x j), sum-zero (λ j. clen_at x j)));
    fits = rw (no-heads, n1) refl;
    cfits = rw (no-heads, n3) refl;
    ids = rw n1 (λ k l. absurd (omega arith));
    cids = rw n3 (λ k l. absurd (omega arith));
    names = rw no-tree g.names;
    whole = rw n1 (λ k l. absurd (omega arith));
    cwhole = rw n3 (λ k l. absurd (omega arith));
    beside = beside_none x n1 n2 (λ y l. after (7568 + y) (λ e. omega arith) (λ e. omega arith) (λ e. omega arith) ∙ zeroth.here y l);
    cfree = rw n3 (λ k l. absurd (omega arith));
  }

  pub none_left : Becomes w x []
  none_left = record {
    good = no-good;
    is = stack-none x n2;
    tree = no-tree;
    others = record { low = λ j a b. keeps j (inl (omega arith)) (λ e. omega arith) (λ e. omega arith) (λ e. omega arith); high = λ j a b. keeps j (inr (omega arith)) (λ e. omega arith) (λ e. omega arith) (λ e. omega arith) };
    rest = beyond-same w x size (λ j a. keeps j (inr (omega arith)) (λ e. omega arith) (λ e. omega arith) (λ e. omega arith));
  }

-- two scopes or more
module _ (w u : List ℕ) (g : Good w) (z : 1 < get_or w 2 0) (is : stack u ≡ drop_inner (stack w)) where
  deep : 0 < get_or w 2 0
  deep = omega arith

  more : 0 < length (under w g deep)
  more = omega (arith, under-length w g deep)

  depth-drop : (c : Scope) (st : Stack) → 0 < length st → length (drop_inner (c ∷ st)) ≡ length st
  depth-drop c [] h = absurd (omega arith)
  depth-drop c (s ∷ st) h = refl

  pub still-deep : 0 < get_or u 2 0
  still-deep = let l = sym (depth_is u) ∙ ap length (is ∙ ap drop_inner (stack_top w g deep)) ∙ depth-drop (top_scope w g deep) (under w g deep) more in omega (arith, more)

  pub closed-fn : is_fn (scope_kind_of (get_or w (7184 + (get_or w 2 0 - 1) * 4) 0)) ≡ true → drop_inner (stack w) ≡ close (stack w)
  closed-fn h = ap drop_inner (stack_top w g deep) ∙ sym (close-fn (top_scope w g deep) (under w g deep) more h) ∙ ap close (sym (stack_top w g deep))

  pub closed-var : is_fn (scope_kind_of (get_or w (7184 + (get_or w 2 0 - 1) * 4) 0)) ≡ false → Past 0 w u → hoist_up (λ j. record_at u j) (get_or w (7184 + (get_or w 2 0 - 1) * 4 + 1) 0) (get_or w 1 0 - get_or w (7184 + (get_or w 2 0 - 1) * 4 + 1) 0) (stack u) ≡ close (stack w)
  closed-var h k =
      let a : ℕ = get_or w (7184 + (get_or w 2 0 - 1) * 4 + 1) 0 in
      let n : ℕ = get_or w 1 0 - a in
      up_same (λ j. record_at u j) (λ j. record_at w j) a n (stack u) (λ j l. record_same w u (a + j) (λ q c b. k.0 q (omega arith) (omega (arith, g.count))) (k.1 (8080 + (a + j)) (omega arith) (omega (arith, g.count))))
      ∙ ap (hoist_up (λ j. record_at w j) a n) (is ∙ ap drop_inner (stack_top w g deep))
      ∙ close-var w a (top_scope w g deep) (under w g deep) (top-fits w g deep) refl more h
      ∙ ap close (sym (stack_top w g deep))

  pub ended-var : is_fn (scope_kind_of (get_or w (7184 + (get_or w 2 0 - 1) * 4) 0)) ≡ false → Past 0 w u → end_up (λ j. record_at u j) (get_or w (7184 + (get_or w 2 0 - 1) * 4 + 1) 0) (get_or w 1 0 - get_or w (7184 + (get_or w 2 0 - 1) * 4 + 1) 0) (stack u) ≡ ending (stack w)
  ended-var h k =
      let a : ℕ = get_or w (7184 + (get_or w 2 0 - 1) * 4 + 1) 0 in
      let n : ℕ = get_or w 1 0 - a in
      end_same (λ j. record_at u j) (λ j. record_at w j) a n (stack u) (λ j l. record_same w u (a + j) (λ q c b. k.0 q (omega arith) (omega (arith, g.count))) (k.1 (8080 + (a + j)) (omega arith) (omega (arith, g.count))))
      ∙ ap (end_up (λ j. record_at w j) a n) (is ∙ ap drop_inner (stack_top w g deep))
      ∙ ending-var w a (top_scope w g deep) (under w g deep) (top-fits w g deep) refl more h
      ∙ ap ending (sym (stack_top w g deep))

-- one scope or none: every count ends
ending-none : ending [] ≡ 0
unfolding ending
ending-none = refl

module _ (w : List ℕ) (g : Good w) (h : get_or w 2 0 < 2) where
  first-zero : (z : 0 < get_or w 2 0) → get_or w (7184 + (get_or w 2 0 - 1) * 4 + 1) 0 ≡ 0
  unfolding heads_at
  first-zero z = (let f : Fits (head_at w (get_or w 2 0 - 1) ∷ heads_at w (get_or w 2 0 - 1)) (get_or w 1 0) = rw (heads-top w g z) at g.fits in go (get_or w 2 0 - 1) (omega arith) f.1)
    where
      go : (d : ℕ) → d ≡ 0 → Fits (heads_at w d) (get_or w (7184 + d * 4 + 1) 0) → get_or w (7184 + d * 4 + 1) 0 ≡ 0
      go zero e f = f
      go (suc d) e f = absurd (omega arith)

  none-zero : get_or w 2 0 ≡ 0 → get_or w 1 0 ≡ 0
  unfolding heads heads_at
  none-zero z = (let f : Fits (heads_at w 0) (get_or w 1 0) = rw z at g.fits in f)

  pub ends-few : ending (stack w) ≡ counts_in (tab (get_or w 1 0 - 0) (λ j. bind_at w (0 + j)))
  ends-few = ⊎_elim
      (λ (z : 0 < get_or w 2 0). ap ending (stack_top w g z) ∙ ending-one (top_scope w g z) (under w g z) (omega (arith, under-length w g z)) ∙ top-counts w g z ∙ ap (λ (a : ℕ). counts_in (tab (get_or w 1 0 - a) (λ j. bind_at w (a + j)))) (first-zero z))
      (λ (l : get_or w 2 0 ≤ 0). let e : get_or w 2 0 ≡ 0 = omega arith in
      ap ending (stack-none w e) ∙ ending-none ∙ sym (ap (λ (n : ℕ). counts_in (tab (n - 0) (λ j. bind_at w (0 + j)))) (none-zero e) ∙ ap counts_in (tab-zero (λ j. bind_at w (0 + j)))))
      (below_or_not 0 (get_or w 2 0))

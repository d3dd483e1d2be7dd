-- A binding appended, a scope opened: the counts grow. Assumes nothing.
use Rattle.std.proofs.Common.{◌≡◌, ℕ, zero, suc, ◌+◌, ◌-◌, ◌*◌, ◌<◌, ◌≤◌, ◌⊎◌, List, [], ◌∷◌, ◌++◌, length, get_or, set, sym, refl, ap, ◌∙◌, subst, inl, inr, ⊎_elim, eq-or-lt_of_le, add-one, arith, length-set, get_or-set_other, get_or-set_same}
use Rattle.def_pass.specs.Scope.{VarInfo, append, new_scope}
use Rattle.words.specs.Tab.{tab, tab-suc, tab-zero, length-tab, get_d-tab, get_d-tab-out, tab-ext, below_or_not, same_or_not, sum-next, sum-ext, sum-part}
use Rattle.words.specs.Layout.{yes, Agree, core_from, run, tree}
use Rattle.words.specs.Moved.{Put, Zeroed}
use Rattle.words.proofs.Nodes.{run-same, beyond-same}
use Rattle.words.specs.Flags.{flag_at}
use Rattle.words.proofs.Flags.{flag-none}
use Rattle.words_scopes.specs.State.{value_of, var_type_of, alias_at, scope_kind_of, bare_of, recorded, len_at, off, run_at, const_at, bind_at, Head, unres_at, head_at, heads_at, heads, flags, binds, consts, split, stack, Fits, Good, Past, Becomes, Beside, place}
use Rattle.words_scopes.specs.Kinds.{type_of, alias_of}
use Rattle.words_scopes.specs.declared.Record.{Record}
use Rattle.std.specs.Int.{from_bool}
use Rattle.words.proofs.Yes.{yes-from_bool}
use Rattle.words_scopes.specs.Index.{Entered}
use Rattle.words_scopes.proofs.Split as laws
use Rattle.words_scopes.proofs.Index.{place-past, place_other, place-again, place-last}
use Rattle.words_scopes.proofs.Words.{bind-eq, bind-same, heads-part, part-coff, part-crun, part-consts, part-tree, whole-none, free-same}

-- the scopes begin before a longer list too
fits_more : (h : Head) (hs : List Head) (n : ℕ) → Fits (h ∷ hs) n → Fits (h ∷ hs) (n + 1)
fits_more h hs n f = (omega (arith, f.0), f.1)

-- the first scope of one or more
pub some-head : (w : List ℕ) (d : ℕ) → 0 < d → heads_at w d ≡ head_at w (d - 1) ∷ heads_at w (d - 1)
unfolding heads_at
some-head w zero h = absurd (omega arith)
some-head w (suc d) h = let e : suc d - 1 ≡ d = omega arith in rw e refl

-- the innermost scope begins among the bindings
pub top-begins : (w : List ℕ) → Good w → 0 < get_or w 2 0 → get_or w (7184 + (get_or w 2 0 - 1) * 4 + 1) 0 ≤ get_or w 1 0
unfolding heads
top-begins w g z = let f : Fits (head_at w (get_or w 2 0 - 1) ∷ heads_at w (get_or w 2 0 - 1)) (get_or w 1 0) = rw (some-head w (get_or w 2 0) z) at g.fits in f.0

module _ (w t v : List ℕ) (g : Good w) (h : get_or w 1 0 + get_or w 3 0 < 256) (z : 0 < get_or w 2 0) (id kind alias reads prevented undef sensitive hoisted times : ℕ) (small : id < 256)
    (zeroth : Entered w t (get_or w 1 0) id (get_or w (7184 + (get_or w 2 0 - 1) * 4 + 1) 0)) (one : Put t v (4112 + get_or w 1 0 * 10) (id ∷ kind ∷ alias ∷ reads ∷ prevented ∷ undef ∷ sensitive ∷ hoisted ∷ 0 ∷ 0 ∷ [])) where
  abbrev n : ℕ
  n = get_or w 1 0

  abbrev w' : List ℕ
  w' = set (set v (8080 + n) times) 1 (n + 1)

  last : (j : ℕ) → (j ≡ 1 → ⊥) → (j ≡ 8080 + n → ⊥) → get_or w' j 0 ≡ get_or v j 0
  last j d e = get_or-set_other (set v (8080 + n) times) 1 j (n + 1) 0 d ∙ get_or-set_other v (8080 + n) j times 0 e

  tail : (j : ℕ) → 6672 ≤ j → (j ≡ 8080 + n → ⊥) → get_or w' j 0 ≡ get_or t j 0
  tail j l d = last j (λ e. omega arith) d ∙ one.high j (omega arith)

  out : (j : ℕ) → (j < 4112 + n * 10) ⊎ (((4112 + n * 10 + 10 ≤ j) × (j < 7568)) ⊎ ((8080 ≤ j) × (j ≡ 8080 + n → ⊥))) → (j ≡ 1 → ⊥) → get_or w' j 0 ≡ get_or w j 0
  out j o d = ⊎_elim
      (λ (l : j < 4112 + n * 10). last j d (λ e. omega arith) ∙ one.low j l ∙ zeroth.other j (λ e. omega arith) (λ e. omega arith))
      (λ o'. ⊎_elim
      (λ (l : (4112 + n * 10 + 10 ≤ j) × (j < 7568)). last j d (λ e. omega arith) ∙ one.high j (omega arith) ∙ zeroth.other j (λ e. omega arith) (λ e. omega arith))
      (λ (l : (8080 ≤ j) × (j ≡ 8080 + n → ⊥)). tail j (omega arith) l.1 ∙ zeroth.other j (λ e. omega arith) (λ e. omega arith)) o') o

  times-old : (j : ℕ) → j < 256 → (j ≡ n → ⊥) → get_or w' (8080 + j) 0 ≡ get_or w (8080 + j) 0
  times-old j l d = out (8080 + j) (inr (inr (omega arith, λ e. d (omega arith)))) (λ e. omega arith)

  times-new : get_or w' (8080 + n) 0 ≡ times
  times-new = let l = g.long in get_or-set_other (set v (8080 + n) times) 1 (8080 + n) (n + 1) 0 (λ e. omega arith) ∙ get_or-set_same v (8080 + n) times 0 (omega (arith, one.size, zeroth.size))

  pub count : get_or w' 1 0 ≡ n + 1
  count = let l = g.long in get_or-set_same (set v (8080 + n) times) 1 (n + 1) 0 (simp length-set (omega (arith, one.size, zeroth.size)))

  -- the new record
  at : (q x s : ℕ) → q < 10 → get_or (id ∷ kind ∷ alias ∷ reads ∷ prevented ∷ undef ∷ sensitive ∷ hoisted ∷ 0 ∷ 0 ∷ []) q 0 ≡ x → s ≡ 4112 + n * 10 + q → get_or w' s 0 ≡ x
  at q x s l e f = rw f (last (4112 + n * 10 + q) (λ e. omega arith) (λ e. omega arith) ∙ one.here q l ∙ e)

  len-new : len_at w' n ≡ 0
  len-new = at 8 0 (4112 + n * 10 + 8) (omega arith) refl (omega arith)

  len-old : (j : ℕ) → j < n → len_at w' j ≡ len_at w j
  len-old j l = out (4112 + j * 10 + 8) (inl (omega arith)) (λ e. omega arith)

  off-old : (j : ℕ) → j ≤ n → off w' j ≡ off w j
  off-old j l = sum-ext (λ q. len_at w' q) (λ q. len_at w q) j (λ q a. len-old q (omega arith))

  run-old : (j : ℕ) → j < n → run_at w' j ≡ run_at w j
  run-old j l = rw (off-old j (omega arith), len-old j l) (run-same w w' 2064 (off w j) (len_at w j) 512 (omega (arith, sum-part (λ q. len_at w q) j n l, g.vals)) (λ q a b. out q (inl (omega arith)) (λ e. omega arith)))

  run-new : run_at w' n ≡ []
  unfolding run
  run-new = rw len-new (tab-zero (λ j. core_from w' (2064 + (off w' n + j) * 2)))

  bind-old : (j : ℕ) → j < n → bind_at w' j ≡ bind_at w j
  bind-old j l = bind-same w w' j (λ q a b. out q (inl (omega arith)) (λ e. omega arith)) (run-old j l) (times-old j (omega arith) (λ e. omega arith))

  abbrev new : VarInfo
  new = bare_of id kind alias reads prevented undef sensitive hoisted times

  bind-new : bind_at w' n ≡ new
  bind-new =
      let cell : (q x : ℕ) → q < 10 → get_or (id ∷ kind ∷ alias ∷ reads ∷ prevented ∷ undef ∷ sensitive ∷ hoisted ∷ 0 ∷ 0 ∷ []) q 0 ≡ x → get_or w' (4112 + n * 10 + q) 0 ≡ x = λ q x l e. at q x (4112 + n * 10 + q) l e refl in
      bind-eq (at 0 id (4112 + n * 10) (omega arith) refl (omega arith)) (ap var_type_of (cell 1 kind (omega arith) refl)) (ap alias_at (cell 2 alias (omega arith) refl)) (cell 3 reads (omega arith) refl)
      (ap yes (cell 4 prevented (omega arith) refl)) (ap yes (cell 5 undef (omega arith) refl)) (ap value_of run-new) (ap yes (cell 6 sensitive (omega arith) refl)) (ap yes (cell 7 hoisted (omega arith) refl)) times-new

  flag-new : get_or w' (4112 + n * 10 + 9) 0 ≡ 0
  flag-new = at 9 0 (4112 + n * 10 + 9) (omega arith) refl (omega arith)

  heads-new : heads w' ≡ heads w
  unfolding heads
  heads-new = let l = g.depth in rw (out 2 (inl (omega arith)) (λ e. omega arith)) (heads-part w w' (get_or w 2 0) (λ j a b. out j (inr (inl (omega arith, omega arith))) (λ e. omega arith)) (λ j a b. out j (inr (inl (omega arith, omega arith))) (λ e. omega arith)))

  abbrev cs : Agree 3088 4112 w w'
  cs = λ j a b. out j (inl (omega arith)) (λ e. omega arith)

  abbrev ct : Agree 6672 (6672 + get_or w 3 0 * 2) w w'
  ct = λ j a b. out j (inr (inl (omega arith, omega arith))) (λ e. omega arith)

  pub pushed-consts : get_or w' 3 0 ≡ get_or w 3 0
  pushed-consts = out 3 (inl (omega arith)) (λ e. omega arith)

  size : length w' ≡ length w
  size = simp length-set (one.size ∙ zeroth.size)

  push-tree : tree w' ≡ tree w
  push-tree = part-tree w' g (out 0 (inl (omega arith)) (λ e. omega arith)) (λ j a b. out j (inl (omega arith)) (λ e. omega arith))

  push-fits : Fits (heads w) (n + 1)
  unfolding heads
  push-fits = let e = some-head w (get_or w 2 0) z in rw e (fits_more (head_at w (get_or w 2 0 - 1)) (heads_at w (get_or w 2 0 - 1)) n (rw e at g.fits))

  -- the parts
  parts : (flags w' ≡ flags w ++ (0 ∷ [])) × (binds w' ≡ binds w ++ (new ∷ [])) × (consts w' ≡ consts w)
  unfolding flags binds consts
  parts = (
    rw count (tab-suc n (λ k. get_or w' (4112 + k * 10 + 9) 0) ∙ rw (flag-new, tab-ext n (λ k. get_or w' (4112 + k * 10 + 9) 0) (λ k. get_or w (4112 + k * 10 + 9) 0) (λ k l. out (4112 + k * 10 + 9) (inl (omega arith)) (λ e. omega arith))) refl),
    rw count (tab-suc n (λ k. bind_at w' k) ∙ rw (bind-new, tab-ext n (λ k. bind_at w' k) (λ k. bind_at w k) bind-old) refl),
    rw (out 3 (inl (omega arith)) (λ e. omega arith)) (part-consts w' g (get_or w 3 0) (omega arith) cs ct),
  )

  -- the lists are as long as the count, and the innermost scope begins in them
  lengths : (length (flags w) ≡ n) × (length (binds w) ≡ n)
  unfolding flags binds
  lengths = (length-tab n (λ k. get_or w (4112 + k * 10 + 9) 0), length-tab n (λ k. bind_at w k))

  -- the tables beside the bindings
  top : heads w ≡ head_at w (get_or w 2 0 - 1) ∷ heads_at w (get_or w 2 0 - 1)
  unfolding heads
  top = some-head w (get_or w 2 0) z

  begins-in : get_or w (7184 + (get_or w 2 0 - 1) * 4 + 1) 0 ≤ n
  begins-in = top-begins w g z

  index-new : get_or w' (7568 + id) 0 ≡ place id (heads w) (binds w ++ (new ∷ []))
  index-new =
      let a : ℕ = get_or w (7184 + (get_or w 2 0 - 1) * 4 + 1) 0 in
      let m : a ≤ length (binds w) = omega (arith, begins-in, lengths.1) in
      let was : get_or w (7568 + id) 0 ≡ place id (head_at w (get_or w 2 0 - 1) ∷ heads_at w (get_or w 2 0 - 1)) (binds w) = g.beside.index id small ∙ ap (λ (l : List Head). place id l (binds w)) top in
      tail (7568 + id) (omega arith) (λ e. omega arith) ∙ ⊎_elim
      (λ (l : a < get_or w (7568 + id) 0). zeroth.again l ∙ was ∙ sym (rw top (place-again id (head_at w (get_or w 2 0 - 1)) (heads_at w (get_or w 2 0 - 1)) (binds w) new refl m (omega (arith, was)))))
      (λ (l : get_or w (7568 + id) 0 ≤ a). zeroth.first l ∙ sym (rw top (place-last id (head_at w (get_or w 2 0 - 1)) (heads_at w (get_or w 2 0 - 1)) (binds w) new refl m (omega (arith, was)) ∙ omega (arith, lengths.1))))
      (below_or_not a (get_or w (7568 + id) 0))

  index-other : (x : ℕ) → x < 256 → (x ≡ id → ⊥) → get_or w' (7568 + x) 0 ≡ place x (heads w) (binds w ++ (new ∷ []))
  index-other x l d = tail (7568 + x) (omega arith) (λ e. omega arith) ∙ zeroth.other (7568 + x) (λ e. omega arith) (λ e. d (omega arith)) ∙ g.beside.index x l ∙ sym (place_other x new (λ e. d (sym e)) (heads w) (binds w))

  upto-old : (k : ℕ) → k ≤ n → tab k (λ j. bind_at w' j) ≡ tab k (λ j. bind_at w j)
  upto-old k l = tab-ext k (λ j. bind_at w' j) (λ j. bind_at w j) (λ j m. bind-old j (omega arith))

  name_new : get_or w' (4112 + n * 10) 0 ≡ id
  name_new = at 0 id (4112 + n * 10) (omega arith) refl (omega arith)

  shadow-new : get_or w' (7824 + n) 0 ≡ place (get_or w' (4112 + n * 10) 0) (heads w) (tab n (λ j. bind_at w j))
  unfolding binds
  shadow-new = tail (7824 + n) (omega arith) (λ e. omega arith) ∙ zeroth.shadow ∙ g.beside.index id small ∙ ap (λ (i : ℕ). place i (heads w) (tab n (λ j. bind_at w j))) (sym name_new)

  shadow-old : (k : ℕ) → k < n → get_or w' (7824 + k) 0 ≡ place (get_or w' (4112 + k * 10) 0) (heads w) (tab k (λ j. bind_at w j))
  shadow-old k l = tail (7824 + k) (omega arith) (λ e. omega arith) ∙ zeroth.other (7824 + k) (λ e. omega arith) (λ e. omega arith) ∙ g.beside.shadow k l ∙ ap (λ (i : ℕ). place i (heads w) (tab k (λ j. bind_at w j))) (sym (out (4112 + k * 10) (inl (omega arith)) (λ e. omega arith)))

  push-beside : Beside w'
  push-beside = record {
    index = λ x l. rw (heads-new, parts.1) (⊎_elim (λ (e : x ≡ id). rw e index-new) (λ (d : x ≡ id → ⊥). index-other x l d) (same_or_not x id));
    shadow = rw (count, heads-new) (λ k l. rw (upto-old k (omega arith)) (⊎_elim (λ (e : k ≡ n). rw e shadow-new) (λ (q : k < n). shadow-old k q) (eq-or-lt_of_le (omega arith))));
  }

  push-good : Good w'
  push-good = record {
    long = rw size g.long;
    nodes = rw (out 0 (inl (omega arith)) (λ e. omega arith)) g.nodes;
    count = omega (arith, count);
    depth = rw (out 2 (inl (omega arith)) (λ e. omega arith)) g.depth;
    ccount = rw (out 3 (inl (omega arith)) (λ e. omega arith)) g.ccount;
    vals = rw count (omega (arith, sum-next (λ q. len_at w' q) n, off-old n (omega arith), len-new, g.vals));
    cvals = rw (out 3 (inl (omega arith)) (λ e. omega arith), part-coff w' g (get_or w 3 0) (omega arith) cs ct (get_or w 3 0) (omega arith)) g.cvals;
    live = rw (count, pushed-consts) (omega arith);
    recorded = rw (count, pushed-consts, part-coff w' g (get_or w 3 0) (omega arith) cs ct (get_or w 3 0) (omega arith)) (omega (arith, sum-next (λ q. len_at w' q) n, off-old n (omega arith), len-new, g.recorded));
    fits = rw (heads-new, count) push-fits;
    cfits = rw (heads-new, out 3 (inl (omega arith)) (λ e. omega arith)) g.cfits;
    ids = rw count (λ k l. ⊎_elim
        (λ (e : k ≡ n). rw (e, name_new) small)
        (λ (q : k < n). rw (out (4112 + k * 10) (inl (omega arith)) (λ e. omega arith)) (g.ids k q))
        (eq-or-lt_of_le (omega arith)));
    cids = rw (out 3 (inl (omega arith)) (λ e. omega arith)) (λ k l. rw (ct (6672 + k * 2) (omega arith) (omega arith)) (g.cids k l));
    names = rw push-tree g.names;
    whole = rw count (λ k l. ⊎_elim (λ (e : k ≡ n). rw (e, run-new) whole-none) (λ (q : k < n). rw (run-old k q) (g.whole k q)) (eq-or-lt_of_le (omega arith)));
    cwhole = rw (out 3 (inl (omega arith)) (λ e. omega arith)) (λ k l. rw (part-crun w' g (get_or w 3 0) (omega arith) cs ct k l) (g.cwhole k l));
    beside = push-beside;
    cfree = rw (out 3 (inl (omega arith)) (λ e. omega arith)) (λ k l. free-same w w' k (λ j a b. out j (inr (inr (omega arith, λ e. omega arith))) (λ e. omega arith)) (part-crun w' g (get_or w 3 0) (omega arith) cs ct k l) (g.cfree k l));
  }

  on-top : split (heads w) (flags w ++ (0 ∷ [])) (binds w ++ (new ∷ [])) (consts w) ≡ append new (split (heads w) (flags w) (binds w) (consts w))
  unfolding heads
  on-top =
      let e = some-head w (get_or w 2 0) z in
      let f : Fits (head_at w (get_or w 2 0 - 1) ∷ heads_at w (get_or w 2 0 - 1)) n = rw e at g.fits in
      rw e (laws.append-split new (head_at w (get_or w 2 0 - 1)) (heads_at w (get_or w 2 0 - 1)) (flags w) (binds w) (consts w) (omega (arith, f.0, lengths.1)) (lengths.0 ∙ sym lengths.1))

  pub pushed-past : Past (n + 1) w w'
  pushed-past = (λ j a b. out j (inr (inl (omega arith, omega arith))) (λ e. omega arith), λ j a b. out j (inr (inr (omega arith, λ e. omega arith))) (λ e. omega arith))

  pub pushed : Becomes w w' (append new (stack w))
  unfolding stack
  pushed = record {
    good = push-good;
    is = rw (heads-new, parts.0, parts.1, parts.2) on-top;
    tree = push-tree;
    others = record { low = λ j a b. out j (inl (omega arith)) (λ e. omega arith); high = λ j a b. out j (inr (inr (omega arith, λ e. omega arith))) (λ e. omega arith) };
    rest = beyond-same w w' size (λ j a. out j (inr (inr (omega arith, λ e. omega arith))) (λ e. omega arith));
  }

  -- all of it, by the binding that the words say
  pub grown : (b : VarInfo) → new ≡ b → Becomes w w' (append b (stack w)) × Past (n + 1) w w' × (get_or w' 1 0 ≡ n + 1) × (get_or w' 3 0 ≡ get_or w 3 0)
  grown b e = (subst (λ (v : VarInfo). Becomes w w' (append v (stack w))) e pushed, pushed-past, count, pushed-consts)

-- a binding without a value, by its words and by its record
pub bare-is : (i k a c : ℕ) (r : Record) → var_type_of k ≡ type_of r.kind → alias_at a ≡ alias_of r.alias
    → bare_of i k a r.reads (from_bool r.prevented) (from_bool r.undefined) (from_bool r.this_sensitive) (from_bool r.hoisted) c ≡ recorded i r c
bare-is i k a c r ek ea =
    bind-eq refl ek ea refl (yes-from_bool r.prevented) (yes-from_bool r.undefined) refl (yes-from_bool r.this_sensitive) (yes-from_bool r.hoisted) refl

-- ten words wiped, the first of them stored, and the next seven
pub filled : {u z v : List ℕ} {p id k a n q d s h : ℕ} → p + 10 ≤ length u → Zeroed u z p 10 → Put (set z p id) v (p + 1) (k ∷ a ∷ n ∷ q ∷ d ∷ s ∷ h ∷ []) → Put u v p (id ∷ k ∷ a ∷ n ∷ q ∷ d ∷ s ∷ h ∷ 0 ∷ 0 ∷ [])
filled {u} {z} {v} {p} {id} {k} {a} {n} {q} {d} {s} {h} long zs one = record {
  size = one.size ∙ length-set z p id ∙ zs.size;
  here = here;
  low = λ j l. one.low j (omega arith) ∙ get_or-set_other z p j id 0 (λ e. omega arith) ∙ zs.low j l;
  high = λ j l. one.high j (omega arith) ∙ get_or-set_other z p j id 0 (λ e. omega arith) ∙ zs.high j l;
}
  where
    mid : (j : ℕ) → j < 7 → get_or v (p + suc j) 0 ≡ get_or (k ∷ a ∷ n ∷ q ∷ d ∷ s ∷ h ∷ []) j 0
    mid j l = let e : p + suc j ≡ p + 1 + j = omega arith in rw e (one.here j l)

    end : (j : ℕ) → 8 ≤ j → j < 10 → get_or v (p + j) 0 ≡ 0
    end j l m = one.high (p + j) (omega arith) ∙ get_or-set_other z p (p + j) id 0 (λ e. omega arith) ∙ zs.here j m

    here : (j : ℕ) → j < 10 → get_or v (p + j) 0 ≡ get_or (id ∷ k ∷ a ∷ n ∷ q ∷ d ∷ s ∷ h ∷ 0 ∷ 0 ∷ []) j 0
    here zero l = let e : p + 0 ≡ p = omega arith in rw e (one.low p (omega arith) ∙ get_or-set_same z p id 0 (omega (arith, zs.size)))
    here (suc zero) l = mid 0 (omega arith)
    here (suc (suc zero)) l = mid 1 (omega arith)
    here (suc (suc (suc zero))) l = mid 2 (omega arith)
    here (suc (suc (suc (suc zero)))) l = mid 3 (omega arith)
    here (suc (suc (suc (suc (suc zero))))) l = mid 4 (omega arith)
    here (suc (suc (suc (suc (suc (suc zero)))))) l = mid 5 (omega arith)
    here (suc (suc (suc (suc (suc (suc (suc zero))))))) l = mid 6 (omega arith)
    here (suc (suc (suc (suc (suc (suc (suc (suc zero)))))))) l = end 8 (omega arith) l
    here (suc (suc (suc (suc (suc (suc (suc (suc (suc zero))))))))) l = end 9 (omega arith) l
    here (suc (suc (suc (suc (suc (suc (suc (suc (suc (suc j)))))))))) l = absurd (omega arith)

-- the first n bindings are kept
module _ {w : List ℕ} (y : List ℕ) (g : Good w) (n : ℕ) (h : n ≤ get_or w 1 0) (bs : Agree 2064 3088 w y) (bt : Agree 4112 (4112 + n * 10) w y) where
  pub part_off : (k : ℕ) → k ≤ n → off y k ≡ off w k
  part_off k l = sum-ext (λ j. len_at y j) (λ j. len_at w j) k (λ j m. bt (4112 + j * 10 + 8) (omega arith) (omega arith))

  pub part-run : (k : ℕ) → k < n → run_at y k ≡ run_at w k
  part-run k l =
      rw (part_off k (omega arith), bt (4112 + k * 10 + 8) (omega arith) (omega arith))
      (run-same w y 2064 (off w k) (len_at w k) 512 (omega (arith, sum-part (λ j. len_at w j) k (get_or w 1 0) (omega arith), g.vals)) (λ j a b. bs j a (omega arith)))

  pub part-bind : Agree 8080 (8080 + n) w y → (k : ℕ) → k < n → bind_at y k ≡ bind_at w k
  part-bind c j l = bind-same w y j (λ q a b. bt q (omega arith) (omega arith)) (part-run j l) (c (8080 + j) (omega arith) (omega arith))

  pub part-binds : Agree 8080 (8080 + n) w y → tab n (λ k. bind_at y k) ≡ tab n (λ k. bind_at w k)
  part-binds c = tab-ext n (λ k. bind_at y k) (λ k. bind_at w k) (part-bind c)

  pub part-flags : tab n (λ k. get_or y (4112 + k * 10 + 9) 0) ≡ tab n (λ k. get_or w (4112 + k * 10 + 9) 0)
  part-flags = tab-ext n (λ k. get_or y (4112 + k * 10 + 9) 0) (λ k. get_or w (4112 + k * 10 + 9) 0) (λ k l. bt (4112 + k * 10 + 9) (omega arith) (omega arith))

-- a scope is opened
module _ (w u v : List ℕ) (g : Good w) (h : get_or w 2 0 < 32) (kind : ℕ) (one : Zeroed w u (7312 + get_or w 2 0 * 8) 8) (two : Put u v (7184 + get_or w 2 0 * 4) (kind ∷ get_or w 1 0 ∷ get_or w 3 0 ∷ 0 ∷ [])) where
  abbrev d : ℕ
  d = get_or w 2 0

  abbrev x : List ℕ
  x = set v 2 (d + 1)

  keeps : (j : ℕ) → (j < 7184 + d * 4) ⊎ (((7184 + d * 4 + 4 ≤ j) × (j < 7312 + d * 8)) ⊎ (7312 + d * 8 + 8 ≤ j)) → (j ≡ 2 → ⊥) → get_or x j 0 ≡ get_or w j 0
  keeps j o e = get_or-set_other v 2 j (d + 1) 0 e ∙ ⊎_elim
      (λ (l : j < 7184 + d * 4). two.low j l ∙ one.low j (omega arith))
      (λ o'. ⊎_elim (λ (l : (7184 + d * 4 + 4 ≤ j) × (j < 7312 + d * 8)). two.high j l.0 ∙ one.low j l.1) (λ (l : 7312 + d * 8 + 8 ≤ j). two.high j (omega arith) ∙ one.high j (omega arith)) o') o

  low : (j : ℕ) → j < 7184 → (j ≡ 2 → ⊥) → get_or x j 0 ≡ get_or w j 0
  low j l e = keeps j (inl (omega arith)) e

  x-size : length x ≡ length w
  x-size = simp length-set (two.size ∙ one.size)

  deeper : get_or x 2 0 ≡ d + 1
  deeper = let l = g.long in get_or-set_same v 2 (d + 1) 0 (omega (arith, two.size, one.size))

  at4 : (q y z : ℕ) → q < 4 → get_or (kind ∷ get_or w 1 0 ∷ get_or w 3 0 ∷ 0 ∷ []) q 0 ≡ y → z ≡ 7184 + d * 4 + q → get_or x z 0 ≡ y
  at4 q y z l e f = rw f (get_or-set_other v 2 (7184 + d * 4 + q) (d + 1) 0 (λ z. omega arith) ∙ two.here q l ∙ e)

  heads-open : heads x ≡ head_at x d ∷ heads w
  unfolding heads heads_at
  heads-open = ap (heads_at x) (deeper ∙ add-one d) ∙ ap (λ (l : List Head). head_at x d ∷ l) (heads-part w x d (λ j a b. keeps j (inl (omega arith)) (λ e. omega arith)) (λ j a b. keeps j (inr (inl (omega arith, omega arith))) (λ e. omega arith)))

  unset : (j : ℕ) → get_or (head_at x d).unres j 0 ≡ 0
  unfolding unres_at
  unset j = ⊎_elim
      (λ (l : j < 256). get_d-tab 256 (λ i. flag_at x (7312 + d * 8) i) j 0 l ∙ flag-none x (7312 + d * 8) j l (λ i m. get_or-set_other v 2 (7312 + d * 8 + i) (d + 1) 0 (λ e. omega arith) ∙ two.high (7312 + d * 8 + i) (omega arith) ∙ one.here i m))
      (λ (l : 256 ≤ j). get_d-tab-out 256 (λ i. flag_at x (7312 + d * 8) i) j 0 l) (below_or_not j 256)

  abbrev ob : Agree 4112 (4112 + get_or w 1 0 * 10) w x
  ob = λ j a b. low j (omega (arith, g.count)) (λ e. omega arith)

  abbrev ov : Agree 2064 3088 w x
  ov = λ j a b. low j (omega arith) (λ e. omega arith)

  abbrev oc : Agree 6672 (6672 + get_or w 3 0 * 2) w x
  oc = λ j a b. low j (omega (arith, g.ccount)) (λ e. omega arith)

  abbrev ow : Agree 3088 4112 w x
  ow = λ j a b. low j (omega arith) (λ e. omega arith)

  abbrev oq : Agree 8080 (8080 + get_or w 1 0) w x
  oq = λ j a b. keeps j (inr (inr (omega arith))) (λ e. omega arith)

  kind_at : get_or x (7184 + d * 4) 0 ≡ kind
  kind_at = at4 0 kind (7184 + d * 4) (omega arith) refl (omega arith)

  start-at : (head_at x d).start ≡ get_or w 1 0
  start-at = at4 1 (get_or w 1 0) (7184 + d * 4 + 1) (omega arith) refl refl

  cstart-at : (head_at x d).cstart ≡ get_or w 3 0
  cstart-at = at4 2 (get_or w 3 0) (7184 + d * 4 + 2) (omega arith) refl refl

  n1 : get_or x 1 0 ≡ get_or w 1 0
  n1 = low 1 (omega arith) (λ e. omega arith)

  n3 : get_or x 3 0 ≡ get_or w 3 0
  n3 = low 3 (omega arith) (λ e. omega arith)

  open-tree : tree x ≡ tree w
  open-tree = part-tree x g (low 0 (omega arith) (λ e. omega arith)) (λ j a b. low j (omega arith) (λ e. omega arith))

  open-parts : (flags x ≡ flags w) × (binds x ≡ binds w) × (consts x ≡ consts w)
  unfolding flags binds consts
  open-parts = (
    rw n1 (part-flags x g (get_or w 1 0) (omega arith) ov ob),
    rw n1 (part-binds x g (get_or w 1 0) (omega arith) ov ob oq),
    rw n3 (part-consts x g (get_or w 3 0) (omega arith) ow oc),
  )

  open-lengths : (length (flags w) ≡ get_or w 1 0) × (length (binds w) ≡ get_or w 1 0) × (length (consts w) ≡ get_or w 3 0)
  unfolding flags binds consts
  open-lengths = (length-tab (get_or w 1 0) (λ k. get_or w (4112 + k * 10 + 9) 0), length-tab (get_or w 1 0) (λ k. bind_at w k), length-tab (get_or w 3 0) (λ k. const_at w k))

  beside-kept : (j : ℕ) → 7568 ≤ j → get_or x j 0 ≡ get_or w j 0
  beside-kept j l = keeps j (inr (inr (omega arith))) (λ e. omega arith)

  open-beside : Beside x
  open-beside = record {
    index = λ y l. beside-kept (7568 + y) (omega arith) ∙ g.beside.index y l ∙ sym (rw (heads-open, open-parts.1) (place-past y (head_at x d) (heads w) (binds w) (omega (arith, start-at, open-lengths.1))));
    shadow = rw n1 (λ k l.
        let i = get_or w (4112 + k * 10) 0 in
        let same : tab k (λ j. bind_at x j) ≡ tab k (λ j. bind_at w j) = tab-ext k (λ j. bind_at x j) (λ j. bind_at w j) (λ j m. part-bind x g (get_or w 1 0) (omega arith) ov ob oq j (omega arith)) in
        beside-kept (7824 + k) (omega arith) ∙ g.beside.shadow k l
        ∙ sym (rw (heads-open, same, ob (4112 + k * 10) (omega arith) (omega arith)) (place-past i (head_at x d) (heads w) (tab k (λ j. bind_at w j)) (omega (arith, start-at, length-tab k (λ j. bind_at w j))))));
  }

  open-good : Good x
  open-good = record {
    long = rw x-size g.long;
    nodes = rw (low 0 (omega arith) (λ e. omega arith)) g.nodes;
    count = rw n1 g.count;
    depth = omega (arith, deeper);
    ccount = rw n3 g.ccount;
    vals = rw (n1, part_off x g (get_or w 1 0) (omega arith) ov ob (get_or w 1 0) (omega arith)) g.vals;
    cvals = rw (n3, part-coff x g (get_or w 3 0) (omega arith) ow oc (get_or w 3 0) (omega arith)) g.cvals;
    live = rw (n1, n3) g.live;
    recorded = rw (n1, n3, part_off x g (get_or w 1 0) (omega arith) ov ob (get_or w 1 0) (omega arith), part-coff x g (get_or w 3 0) (omega arith) ow oc (get_or w 3 0) (omega arith)) g.recorded;
    fits = rw (heads-open, n1) (omega (arith, start-at), rw start-at g.fits);
    cfits = rw (heads-open, n3) (omega (arith, cstart-at), rw cstart-at g.cfits);
    ids = rw n1 (λ k l. rw (ob (4112 + k * 10) (omega arith) (omega arith)) (g.ids k l));
    cids = rw n3 (λ k l. rw (oc (6672 + k * 2) (omega arith) (omega arith)) (g.cids k l));
    names = rw open-tree g.names;
    whole = rw n1 (λ k l. rw (part-run x g (get_or w 1 0) (omega arith) ov ob k l) (g.whole k l));
    cwhole = rw n3 (λ k l. rw (part-crun x g (get_or w 3 0) (omega arith) ow oc k l) (g.cwhole k l));
    beside = open-beside;
    cfree = rw n3 (λ k l. free-same w x k (λ j a b. keeps j (inr (inr (omega arith))) (λ e. omega arith)) (part-crun x g (get_or w 3 0) (omega arith) ow oc k l) (g.cfree k l));
  }

  pub opened : Becomes w x (new_scope (scope_kind_of kind) ∷ stack w)
  unfolding stack
  opened = record {
    good = open-good;
    is = rw (heads-open, open-parts.0, open-parts.1, open-parts.2)
        (laws.open-split (scope_kind_of kind) (head_at x d) (heads w) (flags w) (binds w) (consts w) (ap scope_kind_of kind_at) (at4 3 0 (7184 + d * 4 + 3) (omega arith) refl refl) unset (start-at ∙ sym open-lengths.1) (cstart-at ∙ sym open-lengths.2) (open-lengths.0 ∙ sym open-lengths.1));
    tree = open-tree;
    others = record { low = λ j a b. low j (omega arith) (λ e. omega arith); high = λ j a b. keeps j (inr (inr (omega arith))) (λ e. omega arith) };
    rest = beyond-same w x x-size (λ j a. keeps j (inr (inr (omega arith))) (λ e. omega arith));
  }

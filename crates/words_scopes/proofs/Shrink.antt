-- A scope dropped: the counts shrink. Assumes nothing.
use Rattle.std.proofs.Common.{◌≡◌, ℕ, ◌+◌, ◌-◌, ◌*◌, ◌<◌, ◌≤◌, ◌||◌, ◌⊎◌, List, ◌∷◌, map, length, get_or, take, set, sym, refl, ap, ◌∙◌, inl, inr, ⊎_elim, arith, length-set, get_or-set_other, get_or-set_same}
use Rattle.words.specs.Tab.{tab, length-tab, get_d-tab, get_d-tab-out, take-tab, below_or_not, sum-le}
use Rattle.words.specs.Layout.{yes, Agree, tree}
use Rattle.words.specs.Moved.{Merged}
use Rattle.words.proofs.Nodes.{beyond-same}
use Rattle.words.specs.Flags.{flag_at}
use Rattle.words.proofs.Flags.{flag-or}
use Rattle.words_scopes.specs.State.{scope_kind_of, len_at, clen_at, const_at, bind_at, Head, unres_at, head_at, heads_at, heads, flags, binds, consts, stack, Fits, CFits, Good, Past, Becomes, Beside, place, drop_inner}
use Rattle.words_scopes.specs.Index.{Restored}
use Rattle.words_scopes.proofs.Split as laws
use Rattle.words_scopes.proofs.Index.{named, begins, place-past, place_same, map-tab-same}
use Rattle.words_scopes.proofs.Words.{heads-part, part-coff, part-crun, part-consts, part-tree, free-same}
use Rattle.words_scopes.proofs.Grow.{some-head, part_off, part-run, part-binds, part-flags}

-- d is the place of the scope that is closed
module _ (w t u : List ℕ) (g : Good w) (d : ℕ) (is : get_or w 2 0 ≡ d + 1) (z : 0 < d)
    (zeroth : Restored w t (get_or w (7184 + d * 4 + 1) 0)) (one : Merged t u (7312 + d * 8) (7312 + (d - 1) * 8) 8) where
  abbrev n : ℕ
  n = get_or w (7184 + d * 4 + 1) 0

  abbrev c : ℕ
  c = get_or w (7184 + d * 4 + 2) 0

  abbrev x : List ℕ
  x = set (set (set u 1 n) 3 c) 2 d

  three : (j : ℕ) → (j ≡ 1 → ⊥) → (j ≡ 3 → ⊥) → (j ≡ 2 → ⊥) → get_or x j 0 ≡ get_or u j 0
  three j p q r = get_or-set_other (set (set u 1 n) 3 c) 2 j d 0 r ∙ get_or-set_other (set u 1 n) 3 j c 0 q ∙ get_or-set_other u 1 j n 0 p

  deep : d < 32
  deep = omega (arith, g.depth)

  keeps : (j : ℕ) → (j < 7312 + (d - 1) * 8) ⊎ (7824 ≤ j) → (j ≡ 1 → ⊥) → (j ≡ 3 → ⊥) → (j ≡ 2 → ⊥) → get_or x j 0 ≡ get_or w j 0
  keeps j o p q r = three j p q r ∙ ⊎_elim
      (λ (l : j < 7312 + (d - 1) * 8). one.low j l ∙ zeroth.other j (inl (omega (arith, deep))))
      (λ (l : 7824 ≤ j). one.high j (omega (arith, deep)) ∙ zeroth.other j (inr l)) o

  low : (j : ℕ) → j < 7312 → (3 < j) ⊎ (j ≡ 0) → get_or x j 0 ≡ get_or w j 0
  low j l o = ⊎_elim (λ (a : 3 < j). keeps j (inl (omega arith)) (λ e. omega arith) (λ e. omega arith) (λ e. omega arith)) (λ (a : j ≡ 0). keeps j (inl (omega arith)) (λ e. omega arith) (λ e. omega arith) (λ e. omega arith)) o

  size : length x ≡ length w
  size = simp length-set (one.size ∙ zeroth.size)

  n1 : get_or x 1 0 ≡ n
  n1 = let l = g.long in get_or-set_other (set (set u 1 n) 3 c) 2 1 d 0 (λ e. omega arith) ∙ get_or-set_other (set u 1 n) 3 1 c 0 (λ e. omega arith) ∙ get_or-set_same u 1 n 0 (omega (arith, one.size, zeroth.size))

  n3 : get_or x 3 0 ≡ c
  n3 = let l = g.long in get_or-set_other (set (set u 1 n) 3 c) 2 3 d 0 (λ e. omega arith) ∙ get_or-set_same (set u 1 n) 3 c 0 (simp length-set (omega (arith, one.size, zeroth.size)))

  n2 : get_or x 2 0 ≡ d
  n2 = let l = g.long in get_or-set_same (set (set u 1 n) 3 c) 2 d 0 (simp length-set (omega (arith, one.size, zeroth.size)))

  abbrev hs : List Head
  hs = heads_at w (d - 1)

  heads-were : heads w ≡ head_at w d ∷ head_at w (d - 1) ∷ hs
  unfolding heads
  heads-were =
      let e : get_or w 2 0 - 1 ≡ d = omega arith in
      some-head w (get_or w 2 0) (omega arith) ∙ rw (e, some-head w d z) refl

  heads-are : heads x ≡ head_at x (d - 1) ∷ hs
  unfolding heads
  heads-are = let l = g.depth in ap (heads_at x) n2 ∙ some-head x d z ∙ ap (λ (l : List Head). head_at x (d - 1) ∷ l)
      (heads-part w x (d - 1) (λ j a b. low j (omega arith) (inl (omega arith))) (λ j a b. keeps j (inl (omega arith)) (λ e. omega arith) (λ e. omega arith) (λ e. omega arith)))

  unres-are : (j : ℕ) → yes (get_or (unres_at x (d - 1)) j 0) ≡ (yes (get_or (unres_at w d) j 0) || yes (get_or (unres_at w (d - 1)) j 0))
  unfolding unres_at
  unres-are j =
      let t : List ℕ → ℕ → ℕ → ℕ = λ l k i. flag_at l (7312 + k * 8) i in
      ⊎_elim
      (λ (l : j < 256). rw (get_d-tab 256 (t x (d - 1)) j 0 l, get_d-tab 256 (t w d) j 0 l, get_d-tab 256 (t w (d - 1)) j 0 l)
      (flag-or w x (7312 + d * 8) (7312 + (d - 1) * 8) j l (λ i m. three (7312 + (d - 1) * 8 + i) (λ e. omega arith) (λ e. omega arith) (λ e. omega arith) ∙ one.here i m ∙ rw (zeroth.other (7312 + d * 8 + i) (inl (omega (arith, deep))), zeroth.other (7312 + (d - 1) * 8 + i) (inl (omega (arith, deep)))) refl)))
      (λ (l : 256 ≤ j). rw (get_d-tab-out 256 (t x (d - 1)) j 0 l, get_d-tab-out 256 (t w d) j 0 l, get_d-tab-out 256 (t w (d - 1)) j 0 l) refl)
      (below_or_not j 256)

  fits : Fits (head_at w d ∷ head_at w (d - 1) ∷ hs) (get_or w 1 0)
  fits = rw heads-were at g.fits

  cfits : CFits (head_at w d ∷ head_at w (d - 1) ∷ hs) (get_or w 3 0)
  cfits = rw heads-were at g.cfits

  head-word : (q : ℕ) → q < 4 → get_or x (7184 + (d - 1) * 4 + q) 0 ≡ get_or w (7184 + (d - 1) * 4 + q) 0
  head-word q l = let b = g.depth in low (7184 + (d - 1) * 4 + q) (omega arith) (inl (omega arith))

  head_first : get_or x (7184 + (d - 1) * 4) 0 ≡ get_or w (7184 + (d - 1) * 4) 0
  head_first = let b = g.depth in low (7184 + (d - 1) * 4) (omega arith) (inl (omega arith))

  abbrev ob : Agree 4112 (4112 + n * 10) w x
  ob = λ j a b. low j (omega (arith, g.count, fits.0)) (inl (omega arith))

  abbrev ov : Agree 2064 3088 w x
  ov = λ j a b. low j (omega arith) (inl (omega arith))

  abbrev oc : Agree 6672 (6672 + c * 2) w x
  oc = λ j a b. low j (omega (arith, g.ccount, cfits.0)) (inl (omega arith))

  abbrev ow : Agree 3088 4112 w x
  ow = λ j a b. low j (omega arith) (inl (omega arith))

  abbrev oq : Agree 8080 (8080 + n) w x
  oq = λ j a b. keeps j (inr (omega arith)) (λ e. omega arith) (λ e. omega arith) (λ e. omega arith)

  drop-tree : tree x ≡ tree w
  drop-tree = part-tree x g (low 0 (omega arith) (inr refl)) (λ j a b. low j (omega arith) (inl (omega arith)))

  drop-parts : (flags x ≡ take n (flags w)) × (binds x ≡ take n (binds w)) × (consts x ≡ take c (consts w))
  unfolding flags binds consts
  drop-parts = (
    rw n1 (part-flags x g n fits.0 ov ob ∙ sym (take-tab n (get_or w 1 0) (λ k. get_or w (4112 + k * 10 + 9) 0) fits.0)),
    rw n1 (part-binds x g n fits.0 ov ob oq ∙ sym (take-tab n (get_or w 1 0) (λ k. bind_at w k) fits.0)),
    rw n3 (part-consts x g c cfits.0 ow oc ∙ sym (take-tab c (get_or w 3 0) (λ k. const_at w k) cfits.0)),
  )

  -- the tables beside the bindings
  begins-kept : map begins (heads x) ≡ map begins (head_at w (d - 1) ∷ hs)
  begins-kept = rw heads-are (ap (λ (a : ℕ). a ∷ map begins hs) (head-word 1 (omega arith)))

  drop-place : (i k : ℕ) → k ≤ n → place i (heads w) (tab k (λ j. bind_at w j)) ≡ place i (heads x) (tab k (λ j. bind_at x j))
  drop-place i k l =
      rw heads-were (place-past i (head_at w d) (head_at w (d - 1) ∷ hs) (tab k (λ j. bind_at w j)) (omega (arith, length-tab k (λ j. bind_at w j))))
      ∙ sym (place_same i (head_at w (d - 1) ∷ hs) (heads x) (tab k (λ j. bind_at w j)) (tab k (λ j. bind_at x j)) begins-kept (map-tab-same named k (λ j. bind_at w j) (λ j. bind_at x j) (λ j m. ob (4112 + j * 10) (omega arith) (omega arith))))

  drop-beside : Beside x
  unfolding binds
  drop-beside = record {
    index = rw n1 (λ y l. three (7568 + y) (λ e. omega arith) (λ e. omega arith) (λ e. omega arith) ∙ one.high (7568 + y) (omega (arith, deep)) ∙ zeroth.index y l ∙ drop-place y n (omega arith));
    shadow = rw n1 (λ k l. keeps (7824 + k) (inr (omega arith)) (λ e. omega arith) (λ e. omega arith) (λ e. omega arith) ∙ g.beside.shadow k (omega (arith, fits.0))
        ∙ drop-place (get_or w (4112 + k * 10) 0) k (omega arith) ∙ ap (λ (i : ℕ). place i (heads x) (tab k (λ j. bind_at x j))) (sym (ob (4112 + k * 10) (omega arith) (omega arith))));
  }

  drop-good : Good x
  drop-good = record {
    long = rw size g.long;
    nodes = rw (low 0 (omega arith) (inr refl)) g.nodes;
    count = omega (arith, n1, fits.0, g.count);
    depth = omega (arith, n2, g.depth);
    ccount = omega (arith, n3, cfits.0, g.ccount);
    vals = rw (n1, part_off x g n fits.0 ov ob n (omega arith)) (omega (arith, sum-le (λ j. len_at w j) n (get_or w 1 0) fits.0, g.vals));
    cvals = rw (n3, part-coff x g c cfits.0 ow oc c (omega arith)) (omega (arith, sum-le (λ j. clen_at w j) c (get_or w 3 0) cfits.0, g.cvals));
    live = omega (arith, n1, n3, fits.0, cfits.0, g.live);
    recorded = rw (n1, n3, part_off x g n fits.0 ov ob n (omega arith), part-coff x g c cfits.0 ow oc c (omega arith)) (omega (arith, sum-le (λ j. len_at w j) n (get_or w 1 0) fits.0, sum-le (λ j. clen_at w j) c (get_or w 3 0) cfits.0, g.recorded));
    fits = rw (heads-are, n1) (rw (head-word 1 (omega arith)) fits.1);
    cfits = rw (heads-are, n3) (rw (head-word 2 (omega arith)) cfits.1);
    ids = rw n1 (λ k l. rw (ob (4112 + k * 10) (omega arith) (omega arith)) (g.ids k (omega (arith, fits.0))));
    cids = rw n3 (λ k l. rw (oc (6672 + k * 2) (omega arith) (omega arith)) (g.cids k (omega (arith, cfits.0))));
    names = rw drop-tree g.names;
    whole = rw n1 (λ k l. rw (part-run x g n fits.0 ov ob k l) (g.whole k (omega (arith, fits.0))));
    cwhole = rw n3 (λ k l. rw (part-crun x g c cfits.0 ow oc k l) (g.cwhole k (omega (arith, cfits.0))));
    beside = drop-beside;
    cfree = rw n3 (λ k l. free-same w x k (λ j a b. keeps j (inr (omega (arith, g.depth))) (λ e. omega arith) (λ e. omega arith) (λ e. omega arith)) (part-crun x g c cfits.0 ow oc k l) (g.cfree k (omega (arith, cfits.0))));
  }

  dropped-consts : get_or x 3 0 ≤ get_or w 3 0
  dropped-consts = omega (arith, n3, cfits.0)

  dropped-past : Past 0 w x
  dropped-past = (λ j a b. low j (omega arith) (inl (omega arith)), λ j a b. keeps j (inr (omega arith)) (λ e. omega arith) (λ e. omega arith) (λ e. omega arith))

  dropped : Becomes w x (drop_inner (stack w))
  unfolding stack
  dropped = record {
    good = drop-good;
    is = rw (heads-are, drop-parts.0, drop-parts.1, drop-parts.2, heads-were)
        (laws.drop-split (head_at w d) (head_at w (d - 1)) (head_at x (d - 1)) hs (flags w) (binds w) (consts w) (ap scope_kind_of head_first) (head-word 1 (omega arith)) (head-word 2 (omega arith)) (head-word 3 (omega arith)) unres-are);
    tree = drop-tree;
    others = record { low = λ j a b. low j (omega arith) (inl (omega arith)); high = λ j a b. keeps j (inr (omega (arith, g.depth))) (λ e. omega arith) (λ e. omega arith) (λ e. omega arith) };
    rest = beyond-same w x size (λ j a. keeps j (inr (omega (arith, g.depth))) (λ e. omega arith) (λ e. omega arith) (λ e. omega arith));
  }

  -- all of it
  pub shrunk : Becomes w x (drop_inner (stack w)) × Past 0 w x × (get_or x 1 0 ≡ n) × (get_or x 3 0 ≤ get_or w 3 0)
  shrunk = (dropped, dropped-past, n1, dropped-consts)

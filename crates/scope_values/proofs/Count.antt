-- What row 9 counts, by the lists of all bindings and constants, and by the words. Assumes nothing.
use mathlib.Core.Path.{◌≡◌, refl, ap, ◌∙◌}
use mathlib.Core.List.{List, [], ◌∷◌, ◌++◌}
use mathlib.Core.Option.{Option, none, some}
use Prim.Native.Nat.{ℕ, zero, suc, ◌+◌, ◌≤◌, ◌<◌}
use native.Mathlib.Omega.{arith}
use lib.ListN.{length, get_or, set, take, drop, length-take, length-drop}
use Rattle.def_tree.specs.Tree.{Tree, Forest, node, nil, cons, Core, flat, flats, count, counts}
use Rattle.def_pass.specs.Tree.{count_o}
use Rattle.def_pass.specs.Scope.{VarInfo, values_in, values_of, recorded_nodes, live}
use Rattle.words.specs.Tab.{tab, sum, length-tab, sum-ext}
use Rattle.words.proofs.Nodes.{run_length}
use Rattle.words_scopes.specs.State.{Head, split, Fits, CFits, Good, value_of, run_of, run_at, crun_at, len_at, clen_at, bind_at, const_at, off, coff, heads_at, heads, flags, binds, consts, stack}

-- a sum over a list
abbrev pub total : {A : Type 0} → (A → ℕ) → List A → ℕ
total f [] = 0
total f (x ∷ xs) = f x + total f xs

module _ {A : Type 0} (f : A → ℕ) where
  pub total-append : (xs ys : List A) → total f (xs ++ ys) ≡ total f xs + total f ys
  total-append [] ys = omega arith
  total-append (x ∷ xs) ys = omega (arith, total-append xs ys)

  pub total-cut : (n : ℕ) (xs : List A) → total f (take n xs) + total f (drop n xs) ≡ total f xs
  total-cut zero xs = omega arith
  total-cut (suc n) [] = refl
  total-cut (suc n) (x ∷ xs) = omega (arith, total-cut n xs)

  pub total-set : (xs : List A) (k : ℕ) (v d : A) → k < length xs → total f (set xs k v) + f (get_or xs k d) ≡ total f xs + f v
  total-set [] k v d h = absurd (omega arith)
  total-set (x ∷ xs) zero v d h = omega arith
  total-set (x ∷ xs) (suc k) v d h = omega (arith, total-set xs k v d (omega arith))

  total-tab : (n : ℕ) (g : ℕ → A) → total f (tab n g) ≡ sum (λ j. f (g j)) n
  unfolding tab sum
  total-tab zero g = refl
  total-tab (suc n) g = total-append (tab n g) (g n ∷ []) ∙ omega (arith, total-tab n g)

-- the nodes of a binding's value, and of a constant's
abbrev pub nodes_b : VarInfo → ℕ
nodes_b b = count_o b.value

abbrev pub nodes_c : ℕ × Option Tree → ℕ
nodes_c c = count_o c.1

pub values-in : (bs : List VarInfo) → values_in bs ≡ total nodes_b bs
values-in [] = refl
values-in (b ∷ bs) = ap (λ (n : ℕ). nodes_b b + n) (values-in bs)

pub values-of : (cs : List (ℕ × Option Tree)) → values_of cs ≡ total nodes_c cs
values-of [] = refl
values-of (c ∷ cs) = ap (λ (n : ℕ). nodes_c c + n) (values-of cs)

no-total : {A : Type 0} (f : A → ℕ) (xs : List A) → length xs ≡ 0 → total f xs ≡ 0
no-total f [] h = refl
no-total f (x ∷ xs) h = absurd (omega arith)

module _ where
  taken : {A : Type 0} (n : ℕ) (xs : List A) → n ≤ length xs → length (take n xs) ≡ n
  taken n xs h = omega (arith, length-take n xs)

-- all scopes, by the lists
pub recorded-split : (hs : List Head) (fl : List ℕ) (bs : List VarInfo) (cs : List (ℕ × Option Tree)) → Fits hs (length bs) → CFits hs (length cs)
    → recorded_nodes (split hs fl bs cs) ≡ total nodes_b bs + total nodes_c cs
recorded-split [] fl bs cs f g = omega (arith, no-total nodes_b bs f, no-total nodes_c cs g)
recorded-split (h ∷ hs) fl bs cs f g =
    let a : ℕ = h.start in
    let c : ℕ = h.cstart in
    let more = recorded-split hs (take a fl) (take a bs) (take c cs) (rw (taken a bs f.0) f.1) (rw (taken c cs g.0) g.1) in
    omega (arith, more, values-in (drop a bs), values-of (drop c cs), total-cut nodes_b a bs, total-cut nodes_c c cs)

pub live-split : (hs : List Head) (fl : List ℕ) (bs : List VarInfo) (cs : List (ℕ × Option Tree)) → Fits hs (length bs) → CFits hs (length cs)
    → live (split hs fl bs cs) ≡ length bs + length cs
live-split [] fl bs cs f g = omega (arith, f, g)
live-split (h ∷ hs) fl bs cs f g =
    let a : ℕ = h.start in
    let c : ℕ = h.cstart in
    let more = live-split hs (take a fl) (take a bs) (take c cs) (rw (taken a bs f.0) f.1) (rw (taken c cs g.0) g.1) in
    omega (arith, more, f.0, g.0, length-drop a bs, length-drop c cs, taken a bs f.0, taken c cs g.0)

-- the nodes of a run that is whole
mutual
  flat-length : (t : Tree) (xs : List Core) → length (flat t xs) ≡ count t + length xs
  flat-length (node k f a ts) xs = omega (arith, flats-length ts xs)

  flats-length : (ts : Forest) (xs : List Core) → length (flats ts xs) ≡ counts ts + length xs
  flats-length nil xs = omega arith
  flats-length (cons t ts) xs = omega (arith, flat-length t (flats ts xs), flats-length ts xs)

count-run : (v : Option Tree) → count_o v ≡ length (run_of v)
count-run none = refl
count-run (some t) = omega (arith, flat-length t [])

pub count-whole : (xs : List Core) → run_of (value_of xs) ≡ xs → count_o (value_of xs) ≡ length xs
count-whole xs e = count-run (value_of xs) ∙ ap length e

-- the words
module _ (w : List ℕ) (g : Good w) where
  pub nodes-bind : (k : ℕ) → k < get_or w 1 0 → nodes_b (bind_at w k) ≡ len_at w k
  nodes-bind k h = count-whole (run_at w k) (g.whole k h).one ∙ run_length w 2064 (off w k) (len_at w k)

  pub nodes-const : (k : ℕ) → k < get_or w 3 0 → nodes_c (const_at w k) ≡ clen_at w k
  nodes-const k h = count-whole (crun_at w k) (g.cwhole k h).one ∙ run_length w 3088 (coff w k) (clen_at w k)

  -- the first n
  pub upto-binds : (n : ℕ) → n ≤ get_or w 1 0 → total nodes_b (tab n (λ k. bind_at w k)) ≡ off w n
  upto-binds n l = total-tab nodes_b n (λ k. bind_at w k) ∙ sum-ext (λ k. nodes_b (bind_at w k)) (λ k. len_at w k) n (λ k h. nodes-bind k (omega arith))

  pub upto-consts : (n : ℕ) → n ≤ get_or w 3 0 → total nodes_c (tab n (λ k. const_at w k)) ≡ coff w n
  upto-consts n l = total-tab nodes_c n (λ k. const_at w k) ∙ sum-ext (λ k. nodes_c (const_at w k)) (λ k. clen_at w k) n (λ k h. nodes-const k (omega arith))

  pub total-binds : total nodes_b (binds w) ≡ off w (get_or w 1 0)
  unfolding binds
  total-binds = upto-binds (get_or w 1 0) (omega arith)

  pub total-consts : total nodes_c (consts w) ≡ coff w (get_or w 3 0)
  unfolding consts
  total-consts = upto-consts (get_or w 3 0) (omega arith)

  pub length-binds : length (binds w) ≡ get_or w 1 0
  unfolding binds
  length-binds = length-tab (get_or w 1 0) (λ k. bind_at w k)

  pub length-consts : length (consts w) ≡ get_or w 3 0
  unfolding consts
  length-consts = length-tab (get_or w 3 0) (λ k. const_at w k)

  pub fits-binds : Fits (heads w) (length (binds w))
  fits-binds = rw length-binds g.fits

  pub fits-consts : CFits (heads w) (length (consts w))
  fits-consts = rw length-consts g.cfits

  pub recorded-is : recorded_nodes (stack w) ≡ off w (get_or w 1 0) + coff w (get_or w 3 0)
  unfolding stack
  recorded-is = omega (arith, recorded-split (heads w) (flags w) (binds w) (consts w) fits-binds fits-consts, total-binds, total-consts)

  pub live-is : live (stack w) ≡ get_or w 1 0 + get_or w 3 0
  unfolding stack
  live-is = omega (arith, live-split (heads w) (flags w) (binds w) (consts w) fits-binds fits-consts, length-binds, length-consts)

length-split : (hs : List Head) (fl : List ℕ) (bs : List VarInfo) (cs : List (ℕ × Option Tree)) → length (split hs fl bs cs) ≡ length hs
length-split [] fl bs cs = refl
length-split (h ∷ hs) fl bs cs = ap suc (length-split hs (take h.start fl) (take h.start bs) (take h.cstart cs))

length-heads : (w : List ℕ) (k : ℕ) → length (heads_at w k) ≡ k
unfolding heads_at
length-heads w zero = refl
length-heads w (suc k) = ap suc (length-heads w k)

pub depth_is : (w : List ℕ) → length (stack w) ≡ get_or w 2 0
unfolding stack heads
depth_is w = length-split (heads w) (flags w) (binds w) (consts w) ∙ length-heads w (get_or w 2 0)
